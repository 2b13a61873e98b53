use Rattle.std.proofs.Common.{◌≡◌, ◌≤◌, true}
use Rattle.sei_traverse.proofs.tests.serve.Given as goal

-- the traversal goes on, the words are laid out as it wants them, and it has room for the one input word
abbrev pub invariant-loop-turns : goal.invariant-loop-turns
invariant-loop-turns g l = (l.traversal.running ≡ true) × (l.words.geometry ≡ l.traversal.space.geometry) × (1 ≤ l.traversal.space.input)
