use Rattle.std.proofs.Common.{◌≡◌, ◌+◌, ◌≤◌, ℕ, [], length}
use Rattle.sei_script.specs.Context.{empty_context, context_of}
use Rattle.sei_script.specs.Faults.{is_planned, holds}
use Rattle.sei_script.specs.Fit.{AreFit}
use Rattle.sei_script.specs.Limits.{script_limit, most_connections}
use Rattle.sei_script.proofs.Cuts.{reading_rest}
use Rattle.sei_script.proofs.reader.read_script.Given as goal

-- what is left, behind what was read, reads as the whole
abbrev pub invariant-loop-end : goal.invariant-loop-end
invariant-loop-end l = record {
  whole : reading_rest l.lines.items l.number l.rest ≡ reading_rest [] 1 l.bytes;
  context : l.context ≡ context_of l.lines.items;
  few : l.context.opens ≤ most_connections;
  fit : AreFit empty_context l.lines.items;
  planned : (c t : ℕ) → holds l.traversals c t ≡ is_planned l.lines.items c t;
  number : l.number + length l.rest ≤ length l.bytes + 1;
  size : length l.bytes ≤ script_limit;
}

abbrev pub decreases-loop-end : goal.decreases-loop-end
decreases-loop-end l = length l.rest
