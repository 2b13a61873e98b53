-- The honest run of a table: what its statements do with registers and words.
-- Registers are a function here. A proof ties this run to the trees of the statements, one by one (proofs/TieLaws.antt).
use Rattle.std.specs.Prelude.{◌≡◌, Bool, ℕ, zero, suc, ◌+◌, ◌-◌, ◌%◌, ◌^◌, ◌≤◌, List, [], ◌∷◌, ◌++◌, length, Option, Some, None, nat_lt, nat_le, nat_eq, if◌then◌else◌, slice_get, slice_index, slice_set}
use Rattle.sei_fault.specs.declared.cause.AbortCause.{AbortCause}
use Rattle.sei_fault.specs.declared.cause.AbortCause.TheVariants.{Range, Table, LogFull, OutFull, Output}
use Rattle.sei_log.specs.Changes.{change_of}
use Rattle.sei_log.specs.declared.log.Change.{Change}
use Rattle.sei_stmt.specs.Table.{target}
use Rattle.sei_stmt.specs.Order.{unparsed, parsed, timed, slotted, finished, is_parsed, is_open, may_render}
use Rattle.sei_stmt.specs.declared.stmt.Stmt.{Stmt}
use Rattle.sei_stmt.specs.declared.stmt.Stmt.TheVariants.{Const, Move, Add, Sub, Input, Load, Store, Emit, Jump, JumpEq, JumpLt, Now, Alloc, Parse, Render, Halt}

-- what does not change in a run
pub record Given : Type 0 where
  -- the input words of the request
  pub input : List ℕ
  -- the current second
  pub now : ℕ
  -- the slot that Alloc is answered, by the words and the moment
  pub slot : List ℕ → ℕ → ℕ
  -- whether that slot may be the answer, by the words, the moment and the slot
  pub is_fit : List ℕ → ℕ → ℕ → Bool
  -- the output bytes of output words, and none if the words do not have their form
  pub rendered : List ℕ → Option (List ℕ)
  -- the most output words, output bytes and logged changes that there may be
  pub out_room : ℕ
  pub byte_room : ℕ
  pub log_room : ℕ
  -- the most statements that there may be
  pub budget : ℕ

-- what a run changes
pub record RunState : Type 0 where
  -- what each register holds, by its number
  pub regs : ℕ → ℕ
  -- the words of the bucket
  pub words : List ℕ
  -- the output words, and how many there are
  pub out : List ℕ
  pub emitted : ℕ
  -- the output bytes
  pub bytes : List ℕ
  -- the log, and how many statements stored, whether or not the word was another before
  pub changes : List Change
  pub stores : ℕ
  -- one more than the address stored at last, 0 before the first store
  pub floor : ℕ
  -- how far the run has come: one of the five stages of a pass
  pub stage : ℕ
  -- how many statements were made
  pub steps : ℕ

-- the state in which a run begins. The contents of the registers are left open
abbrev pub start : (ℕ → ℕ) → List ℕ → RunState
start regs words = record { regs = regs; words = words; out = []; emitted = 0; bytes = []; changes = []; stores = 0; floor = 0; stage = unparsed; steps = 0 }

-- the counts are those of the lists. A store of the word that is there already is counted and not logged
abbrev pub Counted : RunState → Type 0
Counted s = (s.emitted ≡ length s.out) × (length s.changes ≤ s.stores)

-- the registers with one of them written
abbrev pub put : (ℕ → ℕ) → ℕ → ℕ → ℕ → ℕ
put regs to v r = if nat_eq r to then v else regs r

-- one more statement made
abbrev pub tick : RunState → RunState
tick s = record s { steps = suc s.steps }

-- a register written by one statement
abbrev pub write : RunState → (to v : ℕ) → RunState
write s to v = record s { regs = put s.regs to v; steps = suc s.steps }

-- the log after a store at `a` of v, if old was there. To store the same word is no change
unfoldable pub logged : List Change → (a old v : ℕ) → List Change
logged changes a old v = if nat_eq old v then changes else changes ++ change_of a old v ∷ []

abbrev pub store : RunState → (a v : ℕ) → RunState
store s a v = record s { words = slice_set s.words a v; changes = logged s.changes a (slice_index s.words a) v; stores = suc s.stores; floor = suc a; steps = suc s.steps }

abbrev pub emit : RunState → ℕ → RunState
emit s v = record s { out = s.out ++ v ∷ []; emitted = suc s.emitted; steps = suc s.steps }

abbrev pub reach : ℕ → RunState → RunState
reach stage s = record s { stage = stage }

abbrev pub parse : RunState → RunState
parse s = reach parsed (tick s)

abbrev pub take_time : RunState → (to now : ℕ) → RunState
take_time s to now = reach timed (write s to now)

abbrev pub take_slot : RunState → (to slot : ℕ) → RunState
take_slot s to slot = reach slotted (write s to slot)

abbrev pub render : RunState → List ℕ → RunState
render s bytes = record s { bytes = bytes; stage = finished; steps = suc s.steps }

-- how a run ends
pub data Outcome : Type 0 where
  -- Halt was made
  Ended : (s : RunState) → Outcome
  Aborted : (cause : AbortCause) → Outcome
  -- a statement is made in a stage that is not its own: no run of a right table
  Misplaced : Outcome
  -- the answered slot may not be the answer: no honest run
  Unfit : (s : RunState) → Outcome
  -- more statements are needed than were allowed
  Unfinished : Outcome

-- how the run goes on from a place in the table and a state
abbrev pub Next : Type 0
Next = ℕ → RunState → Outcome

-- goes on with the word at `a`, or ends if there is none
abbrev pub with_word : Option ℕ → (a : ℕ) → (ℕ → Outcome) → Outcome
with_word None a go = Aborted (Range a)
with_word (Some v) a go = go v

-- goes on with the output bytes, or ends if the words do not have their form or the bytes are too many
abbrev pub with_bytes : Option (List ℕ) → (room : ℕ) → (List ℕ → Outcome) → Outcome
with_bytes None room go = Aborted Output
with_bytes (Some bytes) room go = if nat_le (length bytes) room then go bytes else Aborted OutFull

-- goes on if the word stays as it was, or if the log takes one change more
abbrev pub if_logged : (old v : ℕ) → (has_room : Bool) → Outcome → Outcome
if_logged old v has_room go = if nat_eq old v then go else if has_room then go else Aborted LogFull

-- goes on if the statement is in its stage
abbrev pub in_stage : Bool → Outcome → Outcome
in_stage right go = if right then go else Misplaced

-- one statement of the table, if there is one at `pc`, and the rest of the run
abbrev pub act : Given → Option Stmt → Next → Next
act e None next pc s = Aborted (Table pc)
act e (Some (Const to n)) next pc s = next (pc + 1) (write s to n)
act e (Some (Move to from)) next pc s = next (pc + 1) (write s to (s.regs from))
act e (Some (Add to l r)) next pc s = next (pc + 1) (write s to ((s.regs l + s.regs r) % 2 ^ 64))
act e (Some (Sub to l r)) next pc s = next (pc + 1) (write s to ((s.regs l + 2 ^ 64 - s.regs r) % 2 ^ 64))
act e (Some (Input to i)) next pc s =
    in_stage (is_parsed s.stage) (with_word (slice_get e.input (s.regs i)) (s.regs i) (λ v. next (pc + 1) (write s to v)))
act e (Some (Load to a)) next pc s =
    with_word (slice_get s.words (s.regs a)) (s.regs a) (λ v. next (pc + 1) (write s to v))
act e (Some (Store a from)) next pc s =
    with_word (slice_get s.words (s.regs a)) (s.regs a) (λ old. if_logged old (s.regs from) (nat_lt (length s.changes) e.log_room) (next (pc + 1) (store s (s.regs a) (s.regs from))))
act e (Some (Emit from)) next pc s =
    in_stage (is_open s.stage) (if nat_lt (length s.out) e.out_room then next (pc + 1) (emit s (s.regs from)) else Aborted OutFull)
act e (Some (Jump o)) next pc s = next (target pc o) (tick s)
act e (Some (JumpEq l r o)) next pc s = if nat_eq (s.regs l) (s.regs r) then next (target pc o) (tick s) else next (pc + 1) (tick s)
act e (Some (JumpLt l r o)) next pc s = if nat_lt (s.regs l) (s.regs r) then next (target pc o) (tick s) else next (pc + 1) (tick s)
act e (Some (Now to)) next pc s = in_stage (nat_eq s.stage parsed) (next (pc + 1) (take_time s to e.now))
act e (Some (Alloc to m)) next pc s =
    in_stage (nat_eq s.stage timed) (if e.is_fit s.words (s.regs m) (e.slot s.words (s.regs m)) then next (pc + 1) (take_slot s to (e.slot s.words (s.regs m))) else Unfit s)
act e (Some Parse) next pc s = in_stage (nat_eq s.stage unparsed) (next (pc + 1) (parse s))
act e (Some Render) next pc s =
    in_stage (may_render s.stage) (with_bytes (e.rendered s.out) e.byte_room (λ bytes. next (pc + 1) (render s bytes)))
act e (Some Halt) next pc s = in_stage (nat_eq s.stage finished) (Ended (tick s))

-- at most n statements
abbrev pub exec : Given → List Stmt → ℕ → Next
exec e table zero pc s = Unfinished
exec e table (suc n) pc s = act e (slice_get table pc) (exec e table n) pc s
