-- What a loop does with one statement to the registers and lists of a pass, as the tree of its arm says.
use Rattle.std.specs.Prelude.{ℕ, ℤ, ◌<◌, ◌^◌, ⊤, List, Option}
use Rattle.sei_code.specs.Kept.{Kept}
use Rattle.sei_fault.specs.Question.{Question, Answer}
use Rattle.sei_fault.specs.Question.Question.{Often}
use Rattle.sei_fault.specs.Tree.{Tree, Runs}
use Rattle.sei_fault.specs.Tree.Tree.{Ask}
use Rattle.sei_fault.specs.declared.place.Act.{Act}
use Rattle.sei_fault.specs.declared.place.Phase.{Phase}
use Rattle.sei_log.specs.declared.log.Change.{Change}
use Rattle.sei_log.specs.declared.notes.Notes.{Notes}
use Rattle.sei_stmt.specs.declared.stmt.Stmt.{Stmt}
use Rattle.sei_stmt.specs.declared.stmt.Stmt.TheVariants.{Jump, JumpEq, JumpLt}
use Rattle.sei_stmt.specs.Machine.{Machine, Setting, After, one_made}
use Rattle.sei_stmt.specs.Table.{target, IsTarget}
use Rattle.sei_words.specs.Words.{BucketWords}
use Rattle.sei_words.specs.LentBucket.{words_of}
use Rattle.sei_pass.specs.declared.frame.Frame.{Frame}
use Rattle.sei_pass.specs.declared.loops.Asked.{Asked}
use Rattle.sei_pass.specs.Arms.{Arm, site, arm_as, arm_tree}
use Rattle.sei_pass.specs.Frames.{machine_at}
use Rattle.sei_pass.specs.Work.{Work, frame_machine}

-- a jump at index i goes to an index of 64 bits
pub record GoesTo (i : ℕ) (offset : ℤ) : Type 0 where
  pub not_before : IsTarget i offset
  pub small : target i offset < 2 ^ 64

-- the statement at index i is no jump, or goes to such an index
abbrev pub HasTarget : ℕ → Stmt → Type 0
HasTarget i (Jump offset) = GoesTo i offset
HasTarget i (JumpEq left right offset) = GoesTo i offset
HasTarget i (JumpLt left right offset) = GoesTo i offset
HasTarget i s = ⊤

-- how often, and then the statement with this tree, if it is to be made once
abbrev pub once_tree : Phase → ℕ → Act → (Machine → Tree After) → Machine → Tree Arm
once_tree phase index act tree m = Ask (Often (site phase index act)) (arm_as (tree (one_made m)) m act)

-- the machine of a frame, with these words, log and notes, and how the statement ended
abbrev pub arm_after : Frame → List ℕ → Kept Change → Notes → Asked → Arm
arm_after f words log notes asked = record { machine = machine_at f words log notes; asked = asked }

-- the statement with this tree is asked for, and made if that is once, whatever the words, the log and the notes are, and leaves
-- those as they are
abbrev pub Turns : {S : Type 0} → (S → (q : Question) → Answer q → S → Type 0) → Phase → ℕ → Act → (Machine → Tree After) → Frame → Frame → Asked → S → S → Type 0
Turns gives phase index act tree f f2 asked c d =
    (words : List ℕ) (log : Kept Change) (notes : Notes) →
    Runs gives (once_tree phase index act tree (machine_at f words log notes)) c d (arm_after f2 words log notes asked)

-- the statement is asked for, and made if that is once, from this work to that one, whatever the setting and the notes are
abbrev pub TurnsWork : {L S : Type 0} → (S → (q : Question) → Answer q → S → Type 0) → (L → Option BucketWords) → Phase → ℕ → Stmt → Work Frame L S → Work Frame L S → Asked → Type 0
TurnsWork gives lent_bucket phase index s x y asked =
    (g : Setting) (notes : Notes) →
    Runs gives (arm_tree g phase index (frame_machine lent_bucket x notes) s) x.core y.core (arm_after y.pass (words_of (lent_bucket y.lent)) y.log notes asked)
