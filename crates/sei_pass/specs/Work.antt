-- What a pass works on: its own registers and lists, what is lent, the log and the core.
use Rattle.std.specs.Prelude.{Option}
use Rattle.sei_code.specs.Kept.{Kept}
use Rattle.sei_fault.specs.Question.{Question, Answer}
use Rattle.sei_fault.specs.Tree.{Tree, Runs}
use Rattle.sei_log.specs.declared.log.Change.{Change}
use Rattle.sei_log.specs.declared.notes.Notes.{Notes}
use Rattle.sei_stmt.specs.Machine.{Machine, After}
use Rattle.sei_words.specs.Words.{BucketWords}
use Rattle.sei_words.specs.LentBucket.{words_of}
use Rattle.sei_pass.specs.declared.frame.Frame.{Frame}
use Rattle.sei_pass.specs.declared.frame.PassStep.{PassStep}
use Rattle.sei_pass.specs.State.{PassState}
use Rattle.sei_pass.specs.Frames.{machine_at, after_at}
use Rattle.sei_pass.specs.Steps.{machine_of}

-- a pass or its frame, what is lent to it, its log and the core, as a call begins or as it returns
pub record Work (P L S : Type 0) : Type 0 where
  pub pass : P
  pub lent : L
  pub log : Kept Change
  pub core : S

abbrev pub work : {P L S : Type 0} → P → L → Kept Change → S → Work P L S
work pass lent log core = record { pass = pass; lent = lent; log = log; core = core }

-- the machine of a frame that works on this, with these notes
abbrev pub frame_machine : {L S : Type 0} → (L → Option BucketWords) → Work Frame L S → Notes → Machine
frame_machine lent_bucket x notes = machine_at x.pass (words_of (lent_bucket x.lent)) x.log notes

-- the machine of a pass that works on this, with these notes
abbrev pub pass_machine : {L S : Type 0} → (L → Option BucketWords) → Work PassState L S → Notes → Machine
pass_machine lent_bucket x notes = machine_of x.pass (words_of (lent_bucket x.lent)) x.log notes

-- the same, and how a statement ended
abbrev pub frame_after : {L S : Type 0} → (L → Option BucketWords) → Work Frame L S → Notes → PassStep → After
frame_after lent_bucket x notes p = after_at x.pass (words_of (lent_bucket x.lent)) x.log notes p

-- the statement runs from this work to that one, whatever the notes are, and leaves those as they are
abbrev pub Writes : {L S : Type 0} → (S → (q : Question) → Answer q → S → Type 0) → (L → Option BucketWords) → (Machine → Tree After) → Work Frame L S → Work Frame L S → PassStep → Type 0
Writes gives lent_bucket tree x y p = (notes : Notes) → Runs gives (tree (frame_machine lent_bucket x notes)) x.core y.core (frame_after lent_bucket y notes p)
