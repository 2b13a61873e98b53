use Rattle.std.proofs.Common.{◌≡◌, ◌<◌, ◌∙◌, List, Option, Some, length, ap, sym, arith}
use Rattle.std.specs.Prelude.{slice_get}
use Rattle.std.proofs.lemmas.Option.{slice_get-get_or}
use Rattle.sei_words.specs.Words.{BucketWords}
use Rattle.sei_pass.specs.declared.spaces.PassSpace.{PassSpace}
use Rattle.sei_main.specs.Course.{lent_in}
use Rattle.sei_main.proofs.Turns.{turned_with, turned_without, turned_past, still_laid_out}
use Rattle.sei_main.proofs.tables.turn.Goals as goal

pub turn_on-requires-clause-laid_out : goal.turn_on-requires-clause-laid_out
turn_on-requires-clause-laid_out c =
    let inside : c.in-Some.bucket < length c.args.buckets.now.items = omega (arith, c.if-bucket-len.true, c.len.ensures) in
    ap (λ (x : BucketWords). x.geometry) c.index_mut-words.ensures.value ∙ c.requires.laid_out c.in-Some.bucket _ inside ∙ sym (ap (λ (s : PassSpace). s.geometry) c.requires.space)

pub returns-in-Some-clause-turned : goal.returns-in-Some-clause-turned
returns-in-Some-clause-turned c =
    let buckets : List BucketWords = c.args.buckets.now.items in
    let b = c.in-Some.bucket in
    let w : BucketWords = c.index_mut-words.result.now in
    let inside : b < length buckets = omega (arith, c.if-bucket-len.true, c.len.ensures) in
    let there : slice_get buckets b ≡ Some w = slice_get-get_or buckets b _ inside ∙ ap (λ (x : BucketWords). let o : Option BucketWords = Some x in o) (sym c.index_mut-words.ensures.value) in
    turned_with c.args.hands.now c.args.text.now c.args.clock.now.at c.args.buckets.now.items c.args.lent c.args.traversal.now c.turn_on.new.traversal c.args.core.now c.turn_on.new.core c.turn_on.result c.requires.space
    b w c.turn_on.new.words c.in-Some.is there c.turn_on.ensures

pub returns-in-Some-clause-laid_out : goal.returns-in-Some-clause-laid_out
returns-in-Some-clause-laid_out c =
    let buckets : List BucketWords = c.args.buckets.now.items in
    let b = c.in-Some.bucket in
    let w : BucketWords = c.index_mut-words.result.now in
    let inside : b < length buckets = omega (arith, c.if-bucket-len.true, c.len.ensures) in
    still_laid_out c.args.hands.now buckets b w c.turn_on.new.words (ap (λ (x : BucketWords). x.geometry) c.index_mut-words.ensures.value ∙ c.requires.laid_out b _ inside) c.turn_on.ensures.makes.lent c.requires.laid_out

pub returns-in-Some-2-clause-turned : goal.returns-in-Some-2-clause-turned
returns-in-Some-2-clause-turned c =
    turned_past c.args.hands.now c.args.text.now c.args.clock.now.at c.args.buckets.now.items c.args.lent c.args.traversal.now c.turn_alone.new.traversal c.args.core.now c.turn_alone.new.core c.turn_alone.result c.requires.space
    c.in-Some.bucket c.in-Some.is (omega (arith, c.if-bucket-len.false, c.len.ensures)) c.turn_alone.ensures

pub returns-in-None-clause-turned : goal.returns-in-None-clause-turned
returns-in-None-clause-turned c =
    turned_without c.args.hands.now c.args.text.now c.args.clock.now.at c.args.buckets.now.items c.args.lent c.args.traversal.now c.turn_alone-in-None.new.traversal c.args.core.now c.turn_alone-in-None.new.core c.turn_alone-in-None.result c.requires.space
    (ap (lent_in c.args.buckets.now.items) c.in-None.is) c.turn_alone-in-None.ensures
