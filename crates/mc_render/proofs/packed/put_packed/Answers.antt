use Rattle.std.proofs.Common.{◌<◌, length, arith, rules}
use Rattle.std.proofs.lemmas.List.{length-append}
use Rattle.mc_render.proofs.PackedLaws.{word_behind, word_too_much, if_err}
use Rattle.mc_render.proofs.packed.put_packed.Goals as goal

pub returns-in_err-put : goal.returns-in_err-put
returns-in_err-put c =
    let inside : c.loop-word.word-index < length c.packed.inside.words.now = omega arith in
    let much = word_too_much c.loop-word.left c.loop-word.word-index c.min-count.result c.loop-word.into.room c.packed.inside.words.now c.to_be_bytes.result c.loop-word.into.items _
    inside c.min-count.ensures c.to_be_bytes.ensures c.loop-word.invariant.items c.in_err-put.ensures.full in
    record {
      items = search rules;
      within = search rules;
      full = if_err c.from_residual.result _ (omega (arith, much, c.loop-word.invariant.room, length-append c.args.into.now.items c.args.packed.now));
      room = search rules;
    }

pub loop-word-preserved : goal.loop-word-preserved
loop-word-preserved c =
    let inside : c.loop-word.word-index < length c.packed.inside.words.now = omega arith in
    record {
      items = word_behind c.loop-word.left c.loop-word.word-index c.min-count.result c.packed.inside.words.now c.to_be_bytes.result c.loop-word.into.items c.put.new.into.items _
          inside c.min-count.ensures c.to_be_bytes.ensures c.loop-word.invariant.items c.in_ok-put.ensures.items;
      room = omega (arith, c.loop-word.invariant.room, c.put.ensures.room);
      within = λ h. omega (arith, c.in_ok-put.ensures.within, c.loop-word.invariant.within h, c.loop-word.invariant.room);
    }
