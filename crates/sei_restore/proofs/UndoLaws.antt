-- The words before a log come back where its changes are undone, the last one first.
use Rattle.std.specs.Prelude.{◌≡◌, ℕ, zero, suc, ◌-◌, ◌≤◌, ◌<◌, List, [], ◌∷◌, length, drop, get_or, Option, Some, None, slice_get, slice_set}
use Rattle.std.proofs.Common.{ap, sym, ◌∙◌, arith, refl, subst}
use Rattle.std.proofs.Math.Seq.{drop-cons, drop-length}
use Rattle.std.proofs.lemmas.Option.{slice_get-get_or, slice_get_within}
use Rattle.std.proofs.lemmas.List.{length-set}
use Rattle.sei_fault.specs.Tree.{honest}
use Rattle.sei_log.specs.declared.log.Change.{Change}
use Rattle.sei_log.specs.Changes.{change_of, undone}
use Rattle.sei_restore.specs.Undoing.{undo_at, undo_tree, undo_word, LeadsTo, restored}

-- an element that is put back where another one came
put_back : (xs : List ℕ) (i x was : ℕ) → slice_get xs i ≡ Some was → slice_set (slice_set xs i x) i was ≡ xs
put_back [] i x was e = search
put_back (y ∷ ys) zero x was e = search
put_back (y ∷ ys) (suc i) x was e = ap (λ (l : List ℕ). y ∷ l) (put_back ys i x was e)

-- all changes undone: also where an address stands in the log twice
pub undoes_all : (before : List ℕ) (log : List Change) (after : List ℕ) → LeadsTo before log after → undone log after ≡ before
undoes_all before [] after e = e
undoes_all before (c ∷ rest) after (was, more) =
    ap (λ (l : List ℕ). slice_set l c.address c.was) (undoes_all (slice_set before c.address c.becomes) rest after more)
    ∙ put_back before c.address c.becomes c.was was

-- where there is no such element, none is replaced
set_past : (xs : List ℕ) (i x : ℕ) → slice_get xs i ≡ None → slice_set xs i x ≡ xs
set_past [] i x e = search
set_past (y ∷ ys) zero x e = search
set_past (y ∷ ys) (suc i) x e = ap (λ (l : List ℕ). y ∷ l) (set_past ys i x e)

-- undoing without a strike puts the old word in, or finds no word to replace
undo_words : (words : List ℕ) (c : Change) (a : ℕ) (o : Option ℕ) → slice_get words a ≡ o → (honest (undo_word words a c.was o)).words ≡ slice_set words a c.was
undo_words words c a None e = sym (set_past words a c.was e)
undo_words words c a (Some w) e = search

none : Change
none = change_of 0 0 0

back : (log : List Change) (words : List ℕ) (n : ℕ) → n ≤ length log → restored log words n ≡ undone (drop (length log - n) log) words
back log words zero h =
    let all : length log ≡ length log - 0 = omega arith in
    ap (λ (l : List Change). undone l words) (sym (drop-length log)) ∙ ap (λ (m : ℕ). undone (drop m log) words) all
back log words (suc n) h =
    let k = length log - 1 - n in
    let c = get_or log k none in
    let next : length log - n ≡ suc k = omega (arith, h) in
    let this : k ≡ length log - suc n = omega (arith, h) in
    ap (λ (o : Option Change). (honest (undo_at (restored log words n) o)).words) (slice_get-get_or log k none (omega (arith, h)))
    ∙ undo_words (restored log words n) c c.address (slice_get (restored log words n) c.address) refl
    ∙ ap (λ (l : List ℕ). slice_set l c.address c.was) (back log words n (omega (arith, h)) ∙ ap (λ (m : ℕ). undone (drop m log) words) next)
    ∙ ap (λ (l : List Change). undone l words) (sym (drop-cons log k none (omega (arith, h))))
    ∙ ap (λ (m : ℕ). undone (drop m log) words) this

-- the changes at all places in order, undone without a strike
pub restores : (before : List ℕ) (log : List Change) (after : List ℕ) → LeadsTo before log after → restored log after (length log) ≡ before
restores before log after leads =
    let none_left : length log - length log ≡ 0 = omega arith in
    back log after (length log) (omega arith)
    ∙ ap (λ (m : ℕ). undone (drop m log) after) none_left
    ∙ undoes_all before log after leads

-- no such log changes a word outside
within : (before : List ℕ) (log : List Change) (after : List ℕ) (k : ℕ) → LeadsTo before log after → k < length log → (get_or log k none).address < length before
within before [] after k leads h = absurd (omega (arith, h))
within before (c ∷ rest) after zero (was, more) h = slice_get_within before c.address c.was was
within before (c ∷ rest) after (suc k) (was, more) h =
    subst (λ (m : ℕ). (get_or rest k none).address < m) (length-set before c.address c.becomes) (within (slice_set before c.address c.becomes) rest after k more (omega (arith, h)))

kept_length : (log : List Change) (words : List ℕ) → length (undone log words) ≡ length words
kept_length [] words = refl
kept_length (c ∷ rest) words = length-set (undone rest words) c.address c.was ∙ kept_length rest words

pub same_length : (before : List ℕ) (log : List Change) (after : List ℕ) → LeadsTo before log after → length after ≡ length before
same_length before log after leads = sym (kept_length log after) ∙ ap (λ (l : List ℕ). length l) (undoes_all before log after leads)

undo_well : (words : List ℕ) (c : Change) → c.address < length words → (honest (undo_tree words c)).cause ≡ None
undo_well words c h = ap (λ (o : Option ℕ). (honest (undo_word words c.address c.was o)).cause) (slice_get-get_or words c.address 0 h)

-- and none of its changes is out of range where it is undone without a strike
pub stays_inside : (before : List ℕ) (log : List Change) (after : List ℕ) (n : ℕ) → LeadsTo before log after → n < length log
    → (honest (undo_at (restored log after n) (slice_get log (length log - 1 - n)))).cause ≡ None
stays_inside before log after n leads h =
    let k = length log - 1 - n in
    let c = get_or log k none in
    let long : length (restored log after n) ≡ length before =
    ap (λ (l : List ℕ). length l) (back log after n (omega (arith, h))) ∙ kept_length (drop (length log - n) log) after ∙ same_length before log after leads in
    ap (λ (o : Option Change). (honest (undo_at (restored log after n) o)).cause) (slice_get-get_or log k none (omega (arith, h)))
    ∙ undo_well (restored log after n) c (subst (λ (m : ℕ). c.address < m) (sym long) (within before log after k leads (omega (arith, h))))
