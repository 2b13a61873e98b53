use Rattle.std.proofs.Common.{◌≡◌, ℕ, List, ◌+◌, ◌-◌, ◌++◌, length, take, drop, arith, ap, Some, length-append, ◌∙◌}
use Rattle.std.proofs.lemmas.List.{length-take, take_at, drop-drop, take-append-drop}
use Rattle.sei_outside.proofs.memory.MemorySourceSource.read.Goals as goal

-- the piece that was given stands before what is left
piece_then_rest : (bs piece rest : List ℕ) (at n : ℕ) → piece ≡ take n (drop at bs) → length piece ≡ n → drop at bs ≡ take n (piece ++ rest) ++ drop (at + n) bs
piece_then_rest bs piece rest at n e l = rw (take_at piece rest n l, e, ← drop-drop n at bs, take-append-drop n (drop at bs))

pub returns-clause-bytes : goal.returns-clause-bytes
returns-clause-bytes c =
    let bs = c.self.inside.bytes.items in
    let at = c.self.inside.at in
    let n = c.min-count.result in
    let count : at + n - at ≡ n = omega arith in
    let size : length c.copy_from_slice.new.self ≡ n = omega (arith, length-take {A = ℕ}) in
    let piece : c.copy_from_slice.new.self ≡ take n (drop at bs) = c.copy_from_slice.ensures.after ∙ cc count in
    rw (← c.self.view_is) (omega arith, simp length-append (omega arith), ap Some (piece_then_rest bs _ _ at n piece size))
