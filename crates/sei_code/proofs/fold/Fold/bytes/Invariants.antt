use Rattle.std.proofs.Common.{◌≡◌, drop}
use Rattle.sei_code.specs.Codes.{fnv_from}
use Rattle.sei_code.proofs.fold.Fold.bytes.Given as goal

-- the rest from here is the whole from the start
abbrev pub invariant-loop-b : goal.invariant-loop-b
invariant-loop-b l = fnv_from l.self.state (drop l.b-index l.bytes) ≡ fnv_from l.fn.self.state l.bytes
