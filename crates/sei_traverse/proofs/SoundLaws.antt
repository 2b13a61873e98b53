-- An honest first pass of a sound handler ends well.
use Rattle.std.proofs.Common.{◌≡◌, ℕ, ◌^◌, ◌<◌, true, List, Option, Some, false, refl, sym, subst, ap, ◌∙◌}
use Rattle.std.specs.Prelude.{All}
use Rattle.std.proofs.lemmas.Bool.{both_ways}
use Rattle.sei_code.specs.Codes.{message_code}
use Rattle.sei_log.specs.declared.notes.Notes.{Notes}
use Rattle.sei_stmt.specs.Machine.{Machine, Setting}
use Rattle.sei_stmt.specs.Passes.{Space, beginning, IsPassOf, IsServed, IsTold}
use Rattle.sei_stmt.specs.Passes.IsTold.{ByClock}
use Rattle.sei_stmt.specs.Sound.{IsSound, EndsWell, Serves}
use Rattle.sei_stmt.specs.Sound.Serves.{Well, Unfit}
use Rattle.sei_pass.specs.Setting.{is_intact}
use Rattle.sei_pass.specs.Spaces.{space_in}
use Rattle.sei_traverse.specs.Comes.{at_time, EndsAt}
use Rattle.sei_traverse.specs.CallContext.{CallContext, first_setting, first_start, no_notes, given_in}
use Rattle.sei_traverse.specs.Given.{call_of}

module _ {B : Type 0} (space : List ℕ → ℕ → Space) (Before Stands : List ℕ → B → Type 0) (answer : List ℕ → ℕ → B → ℕ → B × List ℕ) (e : CallContext) where
  -- each pass of the call context's call serves, in the call context's space
  pub serves_at : IsSound e.behavior space Before Stands answer → All (λ b. b < 256) e.input →
      (nth : ℕ) → e.behavior.parsed e.input nth ≡ Some e.call → space e.input nth ≡ space_in e.space →
      (g : Setting) → IsPassOf e.behavior.statements e.behavior.rendered (space_in e.space) g → IsServed g e.call →
      (held : B) → Before e.taken held → (now : ℕ) → now < 2 ^ 64 → (notes : Notes) → IsTold g now notes →
      Serves g (λ ws. Stands ws (answer e.input nth held now).0) (answer e.input nth held now).1 (beginning (space_in e.space).rooms e.taken notes)
  serves_at sound bytes nth parsed has g pass served held begins now small notes told =
      subst (λ (x : Space). Serves g (λ ws. Stands ws (answer e.input nth held now).0) (answer e.input nth held now).1 (beginning x.rooms e.taken notes)) has
      (sound.serves e.input bytes nth e.call parsed g (subst (λ (x : Space). IsPassOf e.behavior.statements e.behavior.rendered x g) (sym has) pass) served e.taken held begins now small notes told)

  -- each honest first pass of a fit input ends well
  pub ends_at : IsSound e.behavior space Before Stands answer → All (λ b. b < 256) e.input →
      (nth : ℕ) → e.behavior.parsed e.input nth ≡ Some e.call → space e.input nth ≡ space_in e.space → is_intact e.sealed e.input ≡ true → call_of (given_in e) e.sealed ≡ Some e.call →
      (held : B) → Before e.taken held → (now : ℕ) → now < 2 ^ 64 → EndsAt (first_setting e) (first_start e) now
  ends_at sound bytes nth parsed has intact called held begins now small =
      by_end (serves_at sound bytes nth parsed has (at_time (first_setting e) now)
      (record { statements_are = refl; rendered_are = refl; budget_is = refl; slots_are = refl; free_are = refl })
      (record { intact = intact; parsed = called; lent = refl }) held begins now small no_notes (ByClock refl refl))
    where
      well : (end : Machine) (steps : ℕ) → EndsWell (at_time (first_setting e) now) (λ ws. Stands ws (answer e.input nth held now).0) (answer e.input nth held now).1 (first_start e) end steps → EndsAt (first_setting e) (first_start e) now
      well end steps w = record {
        end = end;
        steps = steps;
        halts = w.run;
        within = w.within;
        ordered = w.ordered;
        rising = w.rising;
        coded = w.coded ∙ ap (λ (r : List ℕ). let o : Option ℕ = Some (message_code e.sealed.answer r) in o) (sym w.replied);
      }

      by_end : Serves (at_time (first_setting e) now) (λ ws. Stands ws (answer e.input nth held now).0) (answer e.input nth held now).1 (first_start e) → EndsAt (first_setting e) (first_start e) now
      by_end (Well end steps w) = well end steps w
      by_end (Unfit second m n f) = absurd (both_ways false refl second)
