use Rattle.std.proofs.Common.{ap, sym, ◌∙◌, arith, ◌++◌, ◌∷◌, [], map}
use Rattle.std.specs.List.{range_with_len}
use Rattle.std.proofs.lemmas.List.FromFn.{map-range_with_len_more}
use Rattle.sei_words.specs.Words.{BucketWords, fresh_words}
use Rattle.sei_main.proofs.tables.fresh_buckets.Goals as goal

pub loop-bucket-preserved : goal.loop-bucket-preserved
loop-bucket-preserved c =
    let f = fresh_words c.args.g.now in
    let b = c.loop-bucket.bucket in
    c.in_ok-push.ensures.items
    ∙ ap (λ l. l ++ c.in_ok-new.field-0 ∷ []) c.loop-bucket.invariant
    ∙ ap (λ (w : BucketWords). map f (range_with_len 0 b) ++ w ∷ []) c.in_ok-new.ensures.fresh
    ∙ sym (map-range_with_len_more f 0 b b (omega arith))
