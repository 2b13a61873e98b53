-- The programs of the commands that store the item which they spell.
use Rattle.std.specs.Prelude.{ℕ}
use Rattle.mc_model.specs.declared.call.Verb.{Verb}
use Rattle.mc_model.specs.declared.call.Verb.TheVariants as verb
use Rattle.mc_model.specs.Call.{Call}
use Rattle.mc_model.specs.Texts.{stored_text, not_stored_text, exists_text, not_found_text, out_of_memory_text}
use Rattle.sei_stmt.specs.Programs.{Prog, Seq, IfEq, IfLt}
use Rattle.tab_find.specs.Answers.{AtKey}
use Rattle.tab_find.specs.Inputs.{block_index}
use Rattle.tab_find.specs.Registers.{r_place, r_end, r_word, r_other}
use Rattle.tab_find.specs.FindPrograms.{find_program, free_program}
use Rattle.tab_find.specs.StorePrograms.{load_call, expiry_program, keep_program, draw_program, make_program}
use Rattle.tab_find.specs.ShowPrograms.{load_uniques, answer_text}
use Rattle.tab_store.specs.declared.commands.Part.{Part}
use Rattle.tab_store.specs.declared.commands.Part.TheVariants.{Set, Add, Replace, Cas}

-- a text is the answer, and nothing changes
abbrev pub refuse : ℕ → Prog
refuse text = Seq (answer_text text) keep_program

-- the item of the key is replaced by the call's
abbrev pub store_present : Prog
store_present = Seq (answer_text stored_text) (draw_program block_index)

-- the key has no item: the call's is made if a slot is free
abbrev pub store_absent : Prog
store_absent =
    Seq free_program
    (IfLt r_place r_end
    (Seq (answer_text stored_text) (make_program block_index))
    (refuse out_of_memory_text))

-- the item of the key is replaced if it has the unique that the call names
abbrev pub compare_present : Prog
compare_present = Seq load_uniques (IfEq r_word r_other store_present (refuse exists_text))

-- the item that the call spells, and then one program or another, by whether the key has an item
abbrev pub store_by : Prog → Prog → Prog
store_by present absent =
    Seq find_program
    (Seq load_call
    (Seq expiry_program
    (IfLt r_place r_end present absent)))

-- what each command does at a key that has an item, and at one that has none
abbrev pub at_present : Part → Prog
at_present Set = store_present
at_present Add = refuse not_stored_text
at_present Replace = store_present
at_present Cas = compare_present

abbrev pub at_absent : Part → Prog
at_absent Set = store_absent
at_absent Add = store_absent
at_absent Replace = refuse not_stored_text
at_absent Cas = refuse not_found_text

abbrev pub part_program : Part → Prog
part_program which = store_by (at_present which) (at_absent which)

-- the command of a part
abbrev pub verb_of : Part → Verb
verb_of Set = verb.Set
verb_of Add = verb.Add
verb_of Replace = verb.Replace
verb_of Cas = verb.Cas

-- the calls that a part is for
abbrev pub IsCallOf : Part → Call → Type 0
IsCallOf part c = AtKey (verb_of part) c
