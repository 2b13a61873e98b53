use Rattle.std.proofs.Common.{refl, arith}
use Rattle.std.proofs.lemmas.Bool.{le-leb}
use Rattle.mc_render.proofs.RenderedLaws.{one_more, malformed, ended, full_then, bad_then, shorter}
use Rattle.mc_render.proofs.reply.render.Goals as goal

-- the words are malformed here

pub returns-in_default-clause-answer : goal.returns-in_default-clause-answer
returns-in_default-clause-answer c =
    rw (malformed c.args.value_bytes c.args.words.now c.loop-rest.rest.now c.loop-rest.into.items c.loop-rest.invariant.all c.loop-rest-test.ensures c.in_default.ensures.value) refl

pub returns-in_default-clause-bytes : goal.returns-in_default-clause-bytes
returns-in_default-clause-bytes c =
    rw (c.clear-in_default.ensures, malformed c.args.value_bytes c.args.words.now c.loop-rest.rest.now c.loop-rest.into.items c.loop-rest.invariant.all c.loop-rest-test.ensures c.in_default.ensures.value) refl

-- all words are read

pub returns-clause-answer : goal.returns-clause-answer
returns-clause-answer c =
    rw (ended c.args.value_bytes c.args.words.now c.loop-rest.rest.now c.loop-rest.into.items c.loop-rest.invariant.all c.loop-rest-test.ensures, le-leb _ _ c.loop-rest.invariant.within) refl

pub returns-clause-bytes : goal.returns-clause-bytes
returns-clause-bytes c =
    rw (ended c.args.value_bytes c.args.words.now c.loop-rest.rest.now c.loop-rest.into.items c.loop-rest.invariant.all c.loop-rest-test.ensures, le-leb _ _ c.loop-rest.invariant.within) refl

-- an output does not fit

pub returns-then-are_outputs-clause-answer : goal.returns-then-are_outputs-clause-answer
returns-then-are_outputs-clause-answer c =
    (full_then c.args.value_bytes c.args.into.now.room c.args.words.now c.loop-rest.rest.now c.in-Some.behind.now c.loop-rest.into.items c.in-Some.output
    c.loop-rest.invariant.all c.in-Some.ensures.value (omega (arith, c.in-Err.ensures.full, c.loop-rest.invariant.room)) c.if-are_outputs.ensures).0

pub returns-then-are_outputs-clause-bytes : goal.returns-then-are_outputs-clause-bytes
returns-then-are_outputs-clause-bytes c =
    rw c.clear-in-Err.ensures
    (full_then c.args.value_bytes c.args.into.now.room c.args.words.now c.loop-rest.rest.now c.in-Some.behind.now c.loop-rest.into.items c.in-Some.output
    c.loop-rest.invariant.all c.in-Some.ensures.value (omega (arith, c.in-Err.ensures.full, c.loop-rest.invariant.room)) c.if-are_outputs.ensures).1

pub returns-else-are_outputs-clause-answer : goal.returns-else-are_outputs-clause-answer
returns-else-are_outputs-clause-answer c =
    rw (bad_then c.args.value_bytes c.args.words.now c.loop-rest.rest.now c.in-Some.behind.now c.loop-rest.into.items c.in-Some.output
    c.loop-rest.invariant.all c.in-Some.ensures.value c.if-are_outputs.ensures) refl

pub returns-else-are_outputs-clause-bytes : goal.returns-else-are_outputs-clause-bytes
returns-else-are_outputs-clause-bytes c =
    rw (
      c.clear-in-Err.ensures,
      bad_then c.args.value_bytes c.args.words.now c.loop-rest.rest.now c.in-Some.behind.now c.loop-rest.into.items c.in-Some.output
          c.loop-rest.invariant.all c.in-Some.ensures.value c.if-are_outputs.ensures,
    ) refl

-- an output more is put

pub loop-rest-smaller : goal.loop-rest-smaller
loop-rest-smaller c = shorter c.args.value_bytes c.loop-rest.rest.now c.in-Some.behind.now c.in-Some.output c.in-Some.ensures.value

pub loop-rest-preserved : goal.loop-rest-preserved
loop-rest-preserved c = record {
  all = one_more c.args.value_bytes c.args.words.now c.loop-rest.rest.now c.in-Some.behind.now c.loop-rest.into.items c.put_output.new.into.items c.in-Some.output
      c.loop-rest.invariant.all c.in-Some.ensures.value c.in-Ok.ensures.items;
  room = omega (arith, c.put_output.ensures.room, c.loop-rest.invariant.room);
  within = omega (arith, c.in-Ok.ensures.within (omega (arith, c.loop-rest.invariant.within, c.loop-rest.invariant.room)), c.loop-rest.invariant.room);
}
