use Rattle.std.proofs.Common.{arith, ◌≡◌, ◌∙◌, Some, None, sym}
use Rattle.std.proofs.lemmas.Grind.{common_steps}
use Rattle.sei_script.specs.Escapes.{unescaped}
use Rattle.sei_script.proofs.UnescapeLaws.{unescaped_stands, stands_unescaped}
use Rattle.sei_script.proofs.escapes.unescape.Goals as goal

pub returns-in-None-clause-only : goal.returns-in-None-clause-only
returns-in-None-clause-only c bytes h =
    let none : None ≡ unescaped c.args.text.now = grind (arith, common_steps) in
    none ∙ stands_unescaped c.args.text.now bytes h

pub returns-in-Plain : goal.returns-in-Plain
returns-in-Plain c =
    let some : Some c.new.result ≡ unescaped c.args.text.now = grind (arith, common_steps) in
    record { value = some; stands = unescaped_stands c.args.text.now c.new.result (sym some); only = λ bytes h. some ∙ stands_unescaped c.args.text.now bytes h }

pub returns-in-Escape : goal.returns-in-Escape
returns-in-Escape c =
    let none : None ≡ unescaped c.args.text.now = grind (arith, common_steps) in
    record { value = none; stands = tt; only = λ bytes h. none ∙ stands_unescaped c.args.text.now bytes h }
