-- The list of commands as the code keeps it.
use Rattle.std.proofs.Common.{◌≡◌, ℕ, zero, suc, ◌+◌, ◌<◌, ◌≤◌, true, false, cond, List, [], ◌∷◌, length, drop, get_or, refl, sym, ap, ◌∙◌, arith, Option, Some, None, Bor}
use Rattle.std.specs.Str.{bytes_eq}
use Rattle.mc_model.specs.declared.call.Verb.{Verb}
use Rattle.mc_text.specs.declared.commands.Command.{Command}
use Rattle.mc_text.specs.declared.commands.Form.{Form}

abbrev pub Coded : Type 0
Coded = Bor (List ℕ) × Form × Verb

abbrev pub coded : Coded → Command
coded r = record { form = r.1; verb = r.2 }

-- the first one with this word
abbrev pub coded_in : List ℕ → List Coded → Option Command
coded_in w [] = None
coded_in w (r ∷ rows) = cond (bytes_eq w r.0.now) (Some (coded r)) (coded_in w rows)

pub coded_next : (w : List ℕ) (rows : List Coded) (i : ℕ) (d : Coded) → i < length rows → bytes_eq w (get_or rows i d).0.now ≡ false → coded_in w (drop (i + 1) rows) ≡ coded_in w (drop i rows)
coded_next w [] i d lt e = absurd (omega arith)
coded_next w (r ∷ rows) zero d lt e = sym (simp e)
coded_next w (r ∷ rows) (suc i) d lt e = let one : suc i + 1 ≡ suc (i + 1) = omega arith in ap (λ n. coded_in w (drop n (r ∷ rows))) one ∙ coded_next w rows i d (omega arith) e

pub coded_here : (w : List ℕ) (rows : List Coded) (i : ℕ) (d : Coded) → i < length rows → bytes_eq w (get_or rows i d).0.now ≡ true → coded_in w (drop i rows) ≡ Some (coded (get_or rows i d))
coded_here w [] i d lt e = absurd (omega arith)
coded_here w (r ∷ rows) zero d lt e = simp e
coded_here w (r ∷ rows) (suc i) d lt e = coded_here w rows i d (omega arith) e

pub coded_end : (w : List ℕ) (rows : List Coded) (i : ℕ) → length rows ≤ i → coded_in w (drop i rows) ≡ None
coded_end w [] zero le = refl
coded_end w [] (suc i) le = refl
coded_end w (r ∷ rows) zero le = absurd (omega arith)
coded_end w (r ∷ rows) (suc i) le = coded_end w rows i (omega arith)
