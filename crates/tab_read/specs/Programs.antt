-- The programs of the commands that read or remove an item, and of the fixed texts.
use Rattle.std.specs.Prelude.{◌≡◌, ℕ, Bool, true, false, [], ◌∷◌}
use Rattle.mc_model.specs.declared.call.Verb.TheVariants as verb
use Rattle.mc_model.specs.Call.{Call}
use Rattle.mc_model.specs.Texts.{deleted_text, touched_text, okay_text, not_found_text, end_text_number}
use Rattle.sei_stmt.specs.declared.stmt.Stmt.TheVariants.{Const, Input, Emit}
use Rattle.sei_stmt.specs.Programs.{Prog, Block, Seq, IfEq, IfLt}
use Rattle.tab_find.specs.Answers.{AtKey}
use Rattle.tab_find.specs.Inputs.{last_index, text_index}
use Rattle.tab_find.specs.Registers.{r_zero, r_one, r_key_length, r_place, r_end, r_index, r_flags, r_unique, r_value_length, r_last, r_number}
use Rattle.tab_find.specs.FindPrograms.{find_program}
use Rattle.tab_find.specs.StorePrograms.{expiry_program, keep_program, put_expiry_program, remove_program, clear_program}
use Rattle.tab_find.specs.ShowPrograms.{Out, read_run, load_item, read_value, say, if_wanted, answer_text}
use Rattle.tab_read.specs.declared.commands.Part.{Part}
use Rattle.tab_read.specs.declared.commands.Part.TheVariants.{Get, Gets, Gat, Gats, Touch, Delete, Flush, Fixed}

-- The change of a command.

-- the item at r_place gets the expiry that the call asks for
abbrev pub expire : Prog
expire = Seq expiry_program put_expiry_program

-- What is shown.

-- the mark whether the cas unique is shown
abbrev pub unique_mark : Bool → ℕ
unique_mark true = r_one
unique_mark false = r_zero

-- an item's output words before its key: the kind of a value, which is 1, whether its cas unique is shown, and its fields
abbrev pub show_fields : Bool → Prog
show_fields shown = Block (Emit r_one ∷ Emit (unique_mark shown) ∷ Emit r_key_length ∷ Emit r_flags ∷ Emit r_value_length ∷ Emit r_unique ∷ [])

-- the item at r_place, with its cas unique or without it
abbrev pub show_item : Bool → Prog
show_item shown = Seq load_item (Seq (show_fields shown) (Seq (read_run Out) (read_value Out)))

-- a text, after the last call of the request
abbrev pub say_last : ℕ → Prog
say_last text = Seq (Block (Const r_index last_index ∷ Input r_last r_index ∷ [])) (IfEq r_last r_one (say text) (Block []))

-- the end, after the last key
abbrev pub show_end : Prog
show_end = say_last end_text_number

-- The commands.

-- the item of the key is shown, and then it is changed so
abbrev pub read_by : Bool → Prog → Prog
read_by shown change =
    Seq find_program
    (IfLt r_place r_end
    (Seq (if_wanted (Seq (show_item shown) show_end)) change)
    (if_wanted show_end))

-- a text is the answer, and the item of the key is changed so; another text is the answer if there is none
abbrev pub change_by : ℕ → Prog → Prog
change_by text change = Seq find_program (IfLt r_place r_end (Seq (answer_text text) change) (answer_text not_found_text))

-- all items of the bucket are removed
abbrev pub flush_program : Prog
flush_program = Seq (if_wanted (say_last okay_text)) clear_program

-- a fixed text: that of the call
abbrev pub fixed_program : Prog
fixed_program = if_wanted (Block (Const r_index text_index ∷ Input r_number r_index ∷ Emit r_zero ∷ Emit r_number ∷ []))

abbrev pub part_program : Part → Prog
part_program Get = read_by false keep_program
part_program Gets = read_by true keep_program
part_program Gat = read_by false expire
part_program Gats = read_by true expire
part_program Touch = change_by touched_text expire
part_program Delete = change_by deleted_text remove_program
part_program Flush = flush_program
part_program Fixed = fixed_program

-- the calls that a part is for
abbrev pub IsCallOf : Part → Call → Type 0
IsCallOf Get c = AtKey verb.Get c
IsCallOf Gets c = AtKey verb.Gets c
IsCallOf Gat c = AtKey verb.Gat c
IsCallOf Gats c = AtKey verb.Gats c
IsCallOf Touch c = AtKey verb.Touch c
IsCallOf Delete c = AtKey verb.Delete c
IsCallOf Flush c = c.verb ≡ verb.Flush
IsCallOf Fixed c = c.verb ≡ verb.Fixed
