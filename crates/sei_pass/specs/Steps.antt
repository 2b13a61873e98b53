-- What one step of a pass does.
use Rattle.std.specs.Prelude.{◌≡◌, ℕ, suc, ◌^◌, ◌<◌, List, Option, Some, None}
use Rattle.sei_code.specs.Kept.{Kept}
use Rattle.sei_fault.specs.Counts.{Counts}
use Rattle.sei_fault.specs.Question.{Question, Answer}
use Rattle.sei_fault.specs.Tree.{Runs}
use Rattle.sei_log.specs.declared.log.Change.{Change}
use Rattle.sei_log.specs.declared.notes.Notes.{Notes}
use Rattle.sei_stmt.specs.declared.stmt.Stmt.{Stmt}
use Rattle.sei_stmt.specs.declared.stmt.Stmt.TheVariants.{Now}
use Rattle.sei_stmt.specs.Comes.{at_time, Agrees}
use Rattle.sei_stmt.specs.Machine.{Machine, Setting, Outcome, After}
use Rattle.sei_stmt.specs.Machine.Outcome.{Next, Halted}
use Rattle.sei_stmt.specs.Statements.{step_tree}
use Rattle.sei_stmt.specs.Honest.{IsOnWay}
use Rattle.sei_pass.specs.declared.given.Which.{Which}
use Rattle.sei_pass.specs.declared.given.Which.TheVariants.{Making, Reading}
use Rattle.sei_pass.specs.State.{PassState}

-- the machine of a pass, with the words that are lent, the log and the notes
abbrev pub machine_of : PassState → List ℕ → Kept Change → Notes → Machine
machine_of p words log notes = record {
  registers = p.registers;
  input = p.input;
  output = p.output;
  bytes = p.bytes;
  code = p.code;
  made = p.made;
  words = words;
  log = log;
  notes = notes;
}

-- what a clock may answer: what it tells, where it tells, and else any number of 64 bits
abbrev pub IsAnswer : Option ℕ → ℕ → Type 0
IsAnswer None now = now < 2 ^ 64
IsAnswer (Some told) now = now ≡ told

-- a statement of the first pass that asks for the time is given the clock's answer, and each other one is given 0
abbrev pub IsAsked : Which → Stmt → Option ℕ → ℕ → Type 0
IsAsked Making (Now to) told now = IsAnswer told now
IsAsked Making s told now = now ≡ 0
IsAsked Reading s told now = now ≡ 0

-- a step from one machine to another, and a core's state from s to t: for some answer of the clock
-- the machine does what the statement's tree says, and a pass that was on its way still is
pub record Stepped {S : Type 0} (gives : S → (q : Question) → Answer q → S → Type 0) (counts : S → Counts) (told : Option ℕ) (setting : ℕ → Setting) (index : ℕ) (old new : Machine) (o : Outcome) (s t : S) : Type 0 where
  pub now : ℕ
  pub answer : IsAnswer told now
  pub runs : Runs gives (step_tree (setting now) index old) s t (record { machine = new; outcome = o })
  -- at each time that the notes don't speak against
  pub on_way : (time : ℕ) → Agrees new.notes.now time → (start : Machine) (n : ℕ) (begin : Counts) →
      IsOnWay (at_time (setting now) time) start n (record { machine = old; outcome = Next index }) begin (counts s) →
      IsOnWay (at_time (setting now) time) start (suc n) (record { machine = new; outcome = o }) begin (counts t)

-- where a pass stands and how its last statement ended, and its core
pub record PassPoint (S : Type 0) : Type 0 where
  pub after : After
  pub core : S

-- a step from a point where the pass goes on, whatever the clock tells, with notes that don't speak against this time
pub record StepsAt {S : Type 0} (gives : S → (q : Question) → Answer q → S → Type 0) (counts : S → Counts) (told : Option ℕ) (g : Setting) (time : ℕ) (x y : PassPoint S) : Type 0 where
  pub index : ℕ
  pub goes : x.after.outcome ≡ Next index
  pub step : Stepped gives counts told (at_time g) index x.after.machine y.after.machine y.after.outcome x.core y.core
  pub agrees : Agrees y.after.machine.notes.now time

-- before the first statement
abbrev pub begun_pass : {S : Type 0} → Machine → S → PassPoint S
begun_pass start core = record { after = record { machine = start; outcome = Next 0 }; core = core }

abbrev pub halted_pass : {S : Type 0} → Machine → S → PassPoint S
halted_pass end core = record { after = record { machine = end; outcome = Halted }; core = core }
