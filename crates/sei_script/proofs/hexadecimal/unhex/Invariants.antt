use Rattle.std.proofs.Common.{◌≡◌, length}
use Rattle.sei_script.specs.Escapes.{joined}
use Rattle.sei_script.specs.Hexadecimal.{unhexed}
use Rattle.sei_script.proofs.hexadecimal.unhex.Given as goal

-- the bytes so far, and what is left, are the whole
abbrev pub invariant-loop-rest : goal.invariant-loop-rest
invariant-loop-rest l = joined l.bytes.items (unhexed l.rest) ≡ unhexed l.text

abbrev pub decreases-loop-rest : goal.decreases-loop-rest
decreases-loop-rest l = length l.rest
