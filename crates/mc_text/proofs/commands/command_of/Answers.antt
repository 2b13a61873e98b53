use Rattle.std.proofs.Common.{refl, sym, ◌∙◌, ap, rules}
use Rattle.std.specs.Str.{bytes_eq}
use Rattle.mc_text.specs.Commands.{command_of}
use Rattle.mc_text.proofs.TableLaws.{coded_next, coded_here, coded_end}
use Rattle.mc_text.proofs.commands.command_of.Goals as goal

pub loop-name-init : goal.loop-name-init
unfolding command_of
loop-name-init c = refl

pub loop-name-preserved : goal.loop-name-preserved
loop-name-preserved c =
    c.loop-name.invariant ∙ sym (coded_next c.args.word.now _ c.loop-name.name-index _ c.loop-name-test.true (ap (bytes_eq c.args.word.now) (sym c.as_bytes.ensures.value) ∙ sym c.is.ensures ∙ c.if-is.false))

pub returns-then-is-clause-value : goal.returns-then-is-clause-value
returns-then-is-clause-value c = sym (c.loop-name.invariant ∙ coded_here c.args.word.now _ c.loop-name.name-index _ c.loop-name-test.true (search rules))

pub returns-clause-value : goal.returns-clause-value
returns-clause-value c = sym (c.loop-name.invariant ∙ coded_end c.args.word.now _ c.loop-name.name-index c.loop-name-test.false)
