-- The order in which a pass may make its statements.
use Rattle.std.specs.Prelude.{ℕ, zero, suc, Bool, ◌&&◌, ◌==◌, nat_lt, Option, Some, None, slice_get, if◌then◌else◌}
use Rattle.sei_stmt.specs.declared.stmt.Stmt.{Stmt}
use Rattle.sei_stmt.specs.declared.stmt.Stmt.TheVariants.{Input, Emit, Now, Alloc, Parse, Render, Halt}
use Rattle.sei_stmt.specs.Machine.{Machine, Setting, Outcome}
use Rattle.sei_stmt.specs.Machine.Outcome.{Next, Halted, Bad}
use Rattle.sei_stmt.specs.Honest.{after}

-- the stages of a pass

abbrev pub unparsed : ℕ
unparsed = 0

abbrev pub parsed : ℕ
parsed = 1

abbrev pub timed : ℕ
timed = 2

abbrev pub slotted : ℕ
slotted = 3

abbrev pub finished : ℕ
finished = 4

-- input words are read after Parse
abbrev pub is_parsed : ℕ → Bool
is_parsed stage = nat_lt unparsed stage

-- output words are made between Parse and Render
abbrev pub is_open : ℕ → Bool
is_open stage = nat_lt unparsed stage && nat_lt stage finished

-- output bytes are made once, after Now
abbrev pub may_render : ℕ → Bool
may_render stage = nat_lt parsed stage && nat_lt stage finished

abbrev pub only : Bool → ℕ → Option ℕ
only right stage = if right then Some stage else None

-- The stage after a statement, if it may be made. Parse comes once, before all of Input, Emit and Now. Now comes once
-- after it, and then Alloc at most once. Render comes once, after Now and all Emits, and Halt after Render. The other
-- statements may be made anywhere.
abbrev pub stage_behind : ℕ → Stmt → Option ℕ
stage_behind stage (Input to index) = only (is_parsed stage) stage
stage_behind stage (Emit from) = only (is_open stage) stage
stage_behind stage (Now to) = only (stage == parsed) timed
stage_behind stage (Alloc to moment) = only (stage == timed) slotted
stage_behind stage Parse = only (stage == unparsed) parsed
stage_behind stage Render = only (may_render stage) finished
stage_behind stage Halt = only (stage == finished) finished
stage_behind stage s = Some stage

abbrev pub stage_behind_found : ℕ → Option Stmt → Option ℕ
stage_behind_found stage None = None
stage_behind_found stage (Some s) = stage_behind stage s

abbrev pub stage_onward : Setting → Option ℕ → Outcome → Option ℕ
stage_onward g None o = None
stage_onward g (Some stage) (Next i) = stage_behind_found stage (slice_get g.statements i)
stage_onward g (Some stage) Halted = Some stage
stage_onward g (Some stage) (Bad cause) = None

-- the stage of an honest run after n statements, if each might be made
abbrev pub stage_after : Setting → Machine → ℕ → Option ℕ
stage_after g start zero = Some unparsed
stage_after g start (suc n) = stage_onward g (stage_after g start n) (after g start n).outcome
