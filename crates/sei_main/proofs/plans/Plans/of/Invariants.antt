use Rattle.std.proofs.Common.{◌≡◌, drop}
use Rattle.sei_main.specs.Plans.{plans_of, plans_from}
use Rattle.sei_main.proofs.plans.Plans.of.Given as goal

-- with what is left of the script it is all its plans
abbrev pub invariant-loop-line : goal.invariant-loop-line
invariant-loop-line l = plans_from l.plans (drop l.line-index l.script) ≡ plans_of l.script
