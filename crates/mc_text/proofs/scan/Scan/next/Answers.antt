use Rattle.std.proofs.Common.{sym, ◌∙◌, ap, arith, length}
use Rattle.std.proofs.Math.ListN.{length-drop}
use Rattle.mc_text.specs.Words.{words}
use Rattle.mc_text.proofs.scan.Scan.next.Goals as goal

pub returns-in-None-clause-last : goal.returns-in-None-clause-last
returns-in-None-clause-last c =
    let none = sym c.requires.place.words ∙ c.in-None.ensures.none in
    record { some = λ h. absurd (omega arith); none = λ h. omega (arith, ap length none, length-drop c.args.self.now.nth (words c.args.line.now)) }
