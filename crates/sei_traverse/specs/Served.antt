-- What a traversal that nothing struck has for its caller.
use Rattle.std.specs.Prelude.{◌≡◌, ℕ, ◌+◌, ◌*◌, ◌-◌, ◌^◌, ◌<◌, ◌≤◌, List, Option, Some}
use Rattle.sei_code.specs.Coded.{sealed}
use Rattle.sei_fault.specs.Counts.{Counts}
use Rattle.sei_fault.specs.declared.place.Phase.{Phase}
use Rattle.sei_stmt.specs.Machine.{Machine}
use Rattle.sei_traverse.specs.CallContext.{CallContext, Whole}
use Rattle.sei_traverse.specs.OnWay.{OnWay}
use Rattle.sei_traverse.specs.Phases.{reply_of, IsCopy}
use Rattle.sei_traverse.specs.State.{TraversalState}
use Rattle.sei_traverse.specs.Unstruck.{first_questions}

-- this holds if the traversal is on its way in this phase, and no strike fell since it began
abbrev pub IfUnstruckIn : Phase → CallContext → TraversalState → Option (List ℕ) → Counts → Counts → Type 0 → Type 0
IfUnstruckIn phase e t lent begin now Holds = t.workspace.place.phase ≡ phase → OnWay e t lent begin now → now.struck ≡ begin.struck → Holds

-- the reply is the output of a whole honest first pass, by the time that was noted, and the copy for the wire is what goes out for it;
-- twice as many questions were asked as those of that pass weigh, with the test after Halt that closes its phase
pub record HasReply (e : CallContext) (t : TraversalState) (begin now : Counts) : Type 0 where
  pub time : ℕ
  pub made : ℕ
  pub end : Machine
  pub whole : Whole e time made end
  pub noted : t.workspace.notes.now ≡ Some (sealed time)
  pub reply : reply_of t.workspace ≡ end.bytes.items
  pub wire : IsCopy t.workspace end.bytes.items
  pub twice : now.asked < 2 ^ 128 - 1 → begin.asked + 2 * first_questions e time made ≤ now.asked

-- it has its reply, and the words that are lent are those that the honest pass leaves
pub record IsServed (e : CallContext) (t : TraversalState) (lent : Option (List ℕ)) (begin now : Counts) : Type 0 where
  pub reply : HasReply e t begin now
  pub words : lent ≡ Some reply.end.words
