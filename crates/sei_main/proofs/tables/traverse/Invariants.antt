use Rattle.sei_pass.specs.Spaces.{bytes_room}
use Rattle.sei_main.specs.Course.{course_begun}
use Rattle.sei_main.specs.SoFar.{served_in, HasRoom}
use Rattle.sei_main.proofs.Turns.{Underway}
use Rattle.sei_main.proofs.tables.traverse.Given as goal

abbrev pub invariant-loop : goal.invariant-loop
invariant-loop l = record {
  underway : Underway l.hands l.text l.now l.limit (course_begun l.hands l.fn.buckets.items l.fn.sealed l.fn.plan) l.counter l.traversal l.buckets.items l.lent l.core (served_in l.so_far);
  room : HasRoom (bytes_room l.hands) l.so_far;
}
