-- The next request of a connection, from what the reader says.
use Rattle.std.proofs.Common.{◌≡◌, ℕ, Bool, false, List, take, refl, ap, sym, ◌∙◌, subst, Option, Some, None}
use Rattle.std.specs.Prelude.{if◌then◌else◌}
use Rattle.mc_text.specs.declared.limits.Limits.{Limits}
use Rattle.mc_text.specs.declared.request.Request.{Request}
use Rattle.mc_text.specs.Meaning.{Meaning}
use Rattle.mc_text.specs.Spells.{Begins}
use Rattle.mc_text.specs.Reads.{IsMore}
use Rattle.mc_text.specs.Reading.{BeginsAs, length_of, meaning_at}
use Rattle.mc_text.specs.Front.{front}
use Rattle.mc_text.proofs.Public.{front_reads, begins_front}
use Rattle.sei_main.specs.Seats.{Seat, waiting}
use Rattle.sei_main.specs.State.{next_request}
use Rattle.sei_main.specs.Becomes.{IsNextOf}

none_front : (l : Limits) (bytes : List ℕ) (o : Option (ℕ × Meaning)) → ((k : ℕ) (m : Meaning) → Begins l bytes k m → ⊥) → front l bytes ≡ o → o ≡ None
none_front l bytes None h e = refl
none_front l bytes (Some p) h e = absurd (h p.0 p.1 (front_reads l bytes p.0 p.1 e))

at_open : (l : Limits) (seat : Seat) → false ≡ seat.closed → next_request l seat ≡ front l (waiting seat)
at_open l seat e = sym (ap (λ (b : Bool). if b then None else front l (waiting seat)) e)

pub next_more : (l : Limits) (seat : Seat) (bytes : List ℕ) → bytes ≡ waiting seat → false ≡ seat.closed → IsMore l bytes → next_request l seat ≡ None
next_more l seat bytes e c m = at_open l seat c ∙ none_front l (waiting seat) (front l (waiting seat)) (subst (λ (bs : List ℕ). (k : ℕ) (n : Meaning) → Begins l bs k n → ⊥) e m.none) refl

pub next_whole : (l : Limits) (seat : Seat) (bytes : List ℕ) (n : ℕ) (r : Request) → bytes ≡ waiting seat → false ≡ seat.closed → BeginsAs l bytes r → n ≡ length_of r → IsNextOf l seat n r
next_whole l seat bytes n r e c found size =
    let b : BeginsAs l (waiting seat) r = subst (λ (bs : List ℕ). BeginsAs l bs r) e found in
    subst (λ (k : ℕ). IsNextOf l seat k r) (sym size) (record {
      within = b.within;
      reading = b.reading;
      next = at_open l seat c ∙ begins_front l (waiting seat) (length_of r) (meaning_at (take (length_of r) (waiting seat)) r) (record { within = b.within; spelled = b.reading.spelled });
    })
