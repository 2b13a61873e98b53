-- Logs that say the same come to the same.
use Rattle.std.proofs.Common.{◌≡◌, ℕ, suc, List, [], ◌∷◌, slice_set, Option, Some, None, slice_get, refl, ap, ◌∙◌, subst}
use Rattle.sei_log.specs.declared.log.Change.{Change}
use Rattle.sei_log.specs.Changes.{applied, Stands}
use Rattle.sei_traverse.specs.Alike.{Alike, AlikeAt, AlikeLogs}

pub alike_itself : (o : Option Change) → AlikeAt o o
alike_itself None = tt
alike_itself (Some c) = record { address = refl; was = refl; becomes = refl }

tail_alike : (c d : Change) (cs ds : List Change) → AlikeLogs (c ∷ cs) (d ∷ ds) → AlikeLogs cs ds
tail_alike c d cs ds h = λ place. h (suc place)

pub applied_alike : (one two : List Change) (words : List ℕ) → AlikeLogs one two → applied one words ≡ applied two words
applied_alike [] [] words a = refl
applied_alike [] (d ∷ ds) words a = absurd (a 0)
applied_alike (c ∷ cs) [] words a = absurd (a 0)
applied_alike (c ∷ cs) (d ∷ ds) words a =
    let x : Alike c d = a 0 in
    ap (λ n. applied cs (slice_set words n c.becomes)) x.address ∙ ap (λ n. applied cs (slice_set words d.address n)) x.becomes
    ∙ applied_alike cs ds (slice_set words d.address d.becomes) (tail_alike c d cs ds a)

some_alike : (two : List Change) (place : ℕ) (c : Change) (o : Option Change) → slice_get two place ≡ o → AlikeAt (Some c) o → (d : Change) × Stands two place d × Alike c d
some_alike two place c None is a = absurd a
some_alike two place c (Some d) is a = (d, is, a)

pub alike_stands : (one two : List Change) (place : ℕ) (c : Change) → AlikeLogs one two → Stands one place c → (d : Change) × Stands two place d × Alike c d
alike_stands one two place c a s = some_alike two place c (slice_get two place) refl (subst (λ (o : Option Change). AlikeAt o (slice_get two place)) s (a place))

alike_some : (one : List Change) (place : ℕ) (d : Change) (o : Option Change) → slice_get one place ≡ o → AlikeAt o (Some d) → (c : Change) × Stands one place c × Alike c d
alike_some one place d None is a = absurd a
alike_some one place d (Some c) is a = (c, is, a)

pub alike_back : (one two : List Change) (place : ℕ) (d : Change) → AlikeLogs one two → Stands two place d → (c : Change) × Stands one place c × Alike c d
alike_back one two place d a s = alike_some one place d (slice_get one place) refl (subst (λ (o : Option Change). AlikeAt (slice_get one place) o) s (a place))
