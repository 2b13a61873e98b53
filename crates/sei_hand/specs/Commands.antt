-- The one program of all commands.
use Rattle.std.specs.Prelude.{ℕ, List, [], ◌∷◌, ◌==◌, map, if◌then◌else◌}
use Rattle.mc_model.specs.declared.geometry.Geometry.{Geometry}
use Rattle.mc_model.specs.declared.call.Verb.TheVariants.{Set, Add, Replace, Cas, Get, Gets, Gat, Gats, Touch, Delete, Flush, Fixed}
use Rattle.mc_model.specs.Call.{verb_number}
use Rattle.sei_stmt.specs.declared.stmt.Stmt.{Stmt}
use Rattle.sei_stmt.specs.declared.stmt.Stmt.TheVariants.{Const, Input, Parse, Render}
use Rattle.sei_stmt.specs.Programs.{Prog, Block, Seq, halves, table_of}
use Rattle.tab_find.specs.Inputs.{noreply_index}
use Rattle.tab_find.specs.Registers.{r_zero, r_index, r_verb, r_noreply, r_number}
use Rattle.tab_find.specs.FindPrograms.{moment_program}
use Rattle.tab_store.specs.declared.commands.Part.TheVariants as store
use Rattle.tab_store.specs.Programs as storing
use Rattle.tab_read.specs.declared.commands.Part.TheVariants as read
use Rattle.tab_read.specs.Programs as reading

-- a command that requests may ask for: its number, and its program
pub record Row : Type 0 where
  pub number : ℕ
  pub program : Prog

abbrev pub rows : List Row
rows =
    record { number = verb_number Set; program = storing.part_program store.Set } ∷
    record { number = verb_number Add; program = storing.part_program store.Add } ∷
    record { number = verb_number Replace; program = storing.part_program store.Replace } ∷
    record { number = verb_number Cas; program = storing.part_program store.Cas } ∷
    record { number = verb_number Get; program = reading.part_program read.Get } ∷
    record { number = verb_number Gets; program = reading.part_program read.Gets } ∷
    record { number = verb_number Gat; program = reading.part_program read.Gat } ∷
    record { number = verb_number Gats; program = reading.part_program read.Gats } ∷
    record { number = verb_number Touch; program = reading.part_program read.Touch } ∷
    record { number = verb_number Delete; program = reading.part_program read.Delete } ∷
    record { number = verb_number Flush; program = reading.part_program read.Flush } ∷
    record { number = verb_number Fixed; program = reading.part_program read.Fixed } ∷ []

-- the program of a number, which is empty if no request may ask for that command
abbrev pub program_in : List Row → ℕ → Prog
program_in [] n = Block []
program_in (r ∷ rs) n = if r.number == n then r.program else program_in rs n

-- the programs of all 16 numbers
abbrev pub programs : List Prog
programs = map (program_in rows) (0 ∷ 1 ∷ 2 ∷ 3 ∷ 4 ∷ 5 ∷ 6 ∷ 7 ∷ 8 ∷ 9 ∷ 10 ∷ 11 ∷ 12 ∷ 13 ∷ 14 ∷ 15 ∷ [])

-- the command of the call, whose index is 0, and the mark that no reply is wanted
abbrev pub load_marks : Prog
load_marks = Block (Input r_verb r_zero ∷ Const r_index noreply_index ∷ Input r_noreply r_index ∷ [])

-- the choice among the commands
abbrev pub dispatch : Prog
dispatch = halves 4 r_verb r_number 0 programs

abbrev pub hands_program : Geometry → Prog
hands_program g =
    Seq (Block (Parse ∷ []))
    (Seq (moment_program g)
    (Seq load_marks
    (Seq dispatch
    (Block (Render ∷ [])))))

-- the table of a geometry
unfoldable pub hands_table : Geometry → List Stmt
hands_table g = table_of (hands_program g)
