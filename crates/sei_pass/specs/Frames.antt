-- What one statement does to the registers and lists of a pass, as the tree of the statement says.
use Rattle.std.specs.Prelude.{◌≡◌, ◌≤◌, ℕ, List, [], length, replicate, Option, None}
use Rattle.sei_code.specs.Kept.{Kept, empty_kept, emptied}
use Rattle.sei_code.specs.declared.coded.Coded.{Coded}
use Rattle.sei_fault.specs.Question.{Question, Answer}
use Rattle.sei_fault.specs.Question.Question.{Value}
use Rattle.sei_fault.specs.Tree.{Tree, Runs}
use Rattle.sei_fault.specs.Tree.Tree.{Ask}
use Rattle.sei_log.specs.declared.log.Change.{Change}
use Rattle.sei_log.specs.declared.notes.Notes.{Notes}
use Rattle.sei_stmt.specs.Machine.{Machine, Setting, Outcome, After, register}
use Rattle.sei_stmt.specs.Machine.Outcome.{Next, Halted, Bad}
use Rattle.sei_stmt.specs.Statements.{noted_slot, render_words, render_bytes}
use Rattle.sei_words.specs.Words.{BucketWords}
use Rattle.sei_words.specs.LentBucket.{words_of}
use Rattle.sei_pass.specs.declared.frame.Frame.{Frame}
use Rattle.sei_pass.specs.declared.frame.PassStep.{PassStep}
use Rattle.sei_pass.specs.declared.frame.PassStep.TheVariants as step
use Rattle.sei_pass.specs.declared.spaces.PassSpace.{PassSpace}

abbrev pub outcome_of : PassStep → Outcome
outcome_of (step.Next index) = Next index
outcome_of step.Halted = Halted
outcome_of (step.Bad cause) = Bad cause

-- before the first statement, with the rooms of this space
abbrev pub new_frame : PassSpace → Frame
new_frame space = record {
  registers = replicate 32 0;
  input = empty_kept ℕ space.input;
  output = empty_kept ℕ space.output;
  bytes = empty_kept ℕ space.bytes;
  code = None;
  made = 0;
}

-- the same with the rooms that it has
abbrev pub cleared : Frame → Frame
cleared f = record {
  registers = replicate 32 0;
  input = emptied f.input;
  output = emptied f.output;
  bytes = emptied f.bytes;
  code = None;
  made = 0;
}

-- the number of registers and the rooms stay, and the input words, the output words and the output bytes fit into theirs
pub record KeepsRooms (f f2 : Frame) : Type 0 where
  pub registers : length f2.registers ≡ length f.registers
  pub input : f2.input.room ≡ f.input.room
  pub output : f2.output.room ≡ f.output.room
  pub bytes : f2.bytes.room ≡ f.bytes.room
  pub fits : length f2.output.items ≤ f2.output.room
  pub bytes_fit : length f2.bytes.items ≤ f2.bytes.room
  pub input_fits : length f2.input.items ≤ f2.input.room

-- the machine of a frame, with these words, log and notes
abbrev pub machine_at : Frame → List ℕ → Kept Change → Notes → Machine
machine_at f words log notes = record {
  registers = f.registers;
  input = f.input;
  output = f.output;
  bytes = f.bytes;
  code = f.code;
  made = f.made;
  words = words;
  log = log;
  notes = notes;
}

abbrev pub after_at : Frame → List ℕ → Kept Change → Notes → PassStep → After
after_at f words log notes p = record { machine = machine_at f words log notes; outcome = outcome_of p }

-- the statement runs from this frame to that one, whatever the words, the log and the notes are, and leaves those as they are
abbrev pub Does : {S : Type 0} → (S → (q : Question) → Answer q → S → Type 0) → (Machine → Tree After) → Frame → Frame → PassStep → S → S → Type 0
Does gives tree f f2 p s t =
    (words : List ℕ) (log : Kept Change) (notes : Notes) → Runs gives (tree (machine_at f words log notes)) s t (after_at f2 words log notes p)

-- the same of a statement that reads the words of what is lent
abbrev pub Reads : {S : Type 0} → (S → (q : Question) → Answer q → S → Type 0) → Option BucketWords → (Machine → Tree After) → Frame → Frame → PassStep → S → S → Type 0
Reads gives lent tree f f2 p s t =
    (log : Kept Change) (notes : Notes) → Runs gives (tree (machine_at f (words_of lent) log notes)) s t (after_at f2 (words_of lent) log notes p)

-- the same of a statement that notes its answer: it leads from these notes to those
abbrev pub Noting : {S : Type 0} → (S → (q : Question) → Answer q → S → Type 0) → (Machine → Tree After) → Frame → Notes → Frame → Notes → PassStep → S → S → Type 0
Noting gives tree f notes f2 notes2 p s t =
    (words : List ℕ) (log : Kept Change) → Runs gives (tree (machine_at f words log notes)) s t (after_at f2 words log notes2 p)

-- the same of a statement that reads the words of what is lent, and notes its answer
abbrev pub NotingRead : {S : Type 0} → (S → (q : Question) → Answer q → S → Type 0) → Option BucketWords → (Machine → Tree After) → Frame → Notes → Frame → Notes → PassStep → S → S → Type 0
NotingRead gives lent tree f notes f2 notes2 p s t =
    (log : Kept Change) → Runs gives (tree (machine_at f (words_of lent) log notes)) s t (after_at f2 (words_of lent) log notes2 p)

-- Alloc with this note: a register is read, and the slot is the noted one, if it may answer
abbrev pub noted_alloc : Setting → ℕ → Machine → ℕ → ℕ → Option Coded → Tree After
noted_alloc g i m to moment note = Ask (Value (register m moment)) (λ t. noted_slot g i m to t note)

-- words were read, as these: what makes the bytes of these, renders those
abbrev pub ReadsWords : {S : Type 0} → (S → (q : Question) → Answer q → S → Type 0) → List ℕ → List ℕ → S → S → Type 0
ReadsWords gives words read s t =
    (g : Setting) (i : ℕ) (m : Machine) (u : _) (x : After) → Runs gives (render_bytes g i m (g.rendered read)) t u x → Runs gives (render_words g i m [] words) s u x
