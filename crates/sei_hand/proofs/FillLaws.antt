-- A list of words gets longer.
use Rattle.std.proofs.Common.{◌≡◌, ℕ, ◌+◌, ◌≤◌, Bool, true, List, ◌++◌, length, ap, ◌∙◌, arith, append_assoc}
use Rattle.std.specs.Prelude.{nat_le}
use Rattle.std.specs.Bool.{OnTrue}
use Rattle.std.proofs.lemmas.Bool.{OnTrue_at}
use Rattle.std.proofs.lemmas.Bool.Decides.{nat_tests}
use Rattle.std.proofs.lemmas.List.{length-append}
use Rattle.sei_code.specs.Kept.{Kept, emptied, extended}
use Rattle.sei_stmt.specs.Handling.{refilled}

fits_test : (m n : ℕ) → m ≤ n → nat_le m n ≡ true
fits_test m n h = grind (arith, nat_tests)

-- what is offered goes in, where there is room
pub goes_in : (k new : Kept ℕ) (xs : List ℕ) (b : Bool) (n : ℕ) → length k.items + n ≤ k.room → b ≡ nat_le (length k.items + n) k.room → OnTrue b (new ≡ extended k xs) → new ≡ extended k xs
goes_in k new xs b n room answer done = OnTrue_at (answer ∙ fits_test (length k.items + n) k.room room) done

pub length_extended : (k new : Kept ℕ) (xs : List ℕ) → new ≡ extended k xs → length new.items ≡ length k.items + length xs
length_extended k new xs e = ap (λ (h : Kept ℕ). length h.items) e ∙ length-append k.items xs

pub room_extended : (k new : Kept ℕ) (xs : List ℕ) → new ≡ extended k xs → new.room ≡ k.room
room_extended k new xs e = ap (λ (h : Kept ℕ). h.room) e

-- one list behind the other
pub extended_twice : (k one two : Kept ℕ) (xs ys : List ℕ) → one ≡ extended k xs → two ≡ extended one ys → two ≡ extended k (xs ++ ys)
extended_twice k one two xs ys e f =
    f ∙ ap (λ (h : Kept ℕ). extended h ys) e ∙ ap (λ (items : List ℕ). record { items = items; room = k.room }) (append_assoc k.items xs ys)

-- three lists behind one another, in a list that was emptied
pub filled_in : (k cleared one two three : Kept ℕ) (xs ys zs : List ℕ) → cleared ≡ emptied k → one ≡ extended cleared xs → two ≡ extended one ys → three ≡ extended two zs → three ≡ refilled k (xs ++ ys ++ zs)
filled_in k cleared one two three xs ys zs e f g h =
    let both : two ≡ extended cleared (xs ++ ys) = extended_twice cleared one two xs ys f g in
    extended_twice cleared two three (xs ++ ys) zs both h ∙ ap (λ (l : Kept ℕ). extended l (xs ++ ys ++ zs)) e

-- the room that is left behind two of them
pub room_left : (k cleared one two : Kept ℕ) (xs ys : List ℕ) (n : ℕ) → cleared ≡ emptied k → one ≡ extended cleared xs → two ≡ extended one ys → length xs + length ys + n ≤ k.room → length two.items + n ≤ two.room
room_left k cleared one two xs ys n e f g room =
    let both : two ≡ extended cleared (xs ++ ys) = extended_twice cleared one two xs ys f g in
    let whole : two ≡ extended (emptied k) (xs ++ ys) = both ∙ ap (λ (l : Kept ℕ). extended l (xs ++ ys)) e in
    omega (arith, length_extended (emptied k) two (xs ++ ys) whole, room_extended (emptied k) two (xs ++ ys) whole, length-append xs ys, room)
