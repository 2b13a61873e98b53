use Rattle.std.proofs.Common.{◌≡◌, ℕ, ◌+◌, ◌*◌, ◌-◌, ◌<◌, ◌≤◌, inl, inr, List, ◌++◌, length, min, take, drop, replicate, sym, ◌∙◌, arith}
use Rattle.std.specs.Prelude.{slice_index}
use Rattle.std.proofs.lemmas.Bool.{cases_lt}
use Rattle.std.proofs.lemmas.List.{get_or_past, length-take, get_or-take, get_or-drop, get_or_append_left, get_or-append_right, get_or-replicate}
use Rattle.std.proofs.lemmas.Slice.{between_to_end}
use Rattle.mc_model.proofs.PackLaws.{word_is}
use Rattle.mc_model.proofs.packing.word_at.Goals as goal

-- bytes before zero bytes; behind the last byte `slice_index` is 0
filled : (xs : List ℕ) (count r : ℕ) → count ≡ min (length xs) 8 → r < 8 → slice_index (take count xs ++ drop count (replicate 8 0)) r ≡ slice_index xs r
filled xs count r is lt = elim (cases_lt r count) [
  | inl before ↦ get_or_append_left (take count xs) (drop count (replicate 8 0)) 0 r (omega (arith, length-take count xs)) ∙ get_or-take count xs r 0 before
  | inr behind ↦ zero_behind behind ∙ sym (get_or_past xs r 0 (omega arith))
]
  where
    zero_behind : count ≤ r → slice_index (take count xs ++ drop count (replicate 8 0)) r ≡ 0
    zero_behind behind =
        get_or-append_right (take count xs) (drop count (replicate 8 0)) count r 0 (omega (arith, length-take count xs)) behind
        ∙ get_or-drop count (replicate 8 0) (r - count) 0
        ∙ get_or-replicate 8 (count + (r - count)) 0 0 (omega arith)

pub returns : goal.returns
returns c =
    let bytes = c.args.bytes.now in
    let begin = 8 * c.args.j in
    let rest = take (length bytes - begin) (drop begin bytes) in
    let is_rest : rest ≡ drop begin bytes = between_to_end bytes begin (length bytes) (omega arith) in
    let at_rest : (r : ℕ) → slice_index rest r ≡ slice_index bytes (begin + r) = λ r. rw is_rest (get_or-drop begin bytes r 0) in
    let word = c.copy_from_slice.new.self ++ drop c.min-count.result (replicate 8 0) in
    c.from_be_bytes.ensures
    ∙ word_is bytes word c.args.j (λ r lt. rw (c.copy_from_slice.ensures.after, ← at_rest r) (filled rest c.min-count.result r c.min-count.ensures lt))
