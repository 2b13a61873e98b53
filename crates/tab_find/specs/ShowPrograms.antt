-- The programs that read an item and make output words.
use Rattle.std.specs.Prelude.{ℕ, [], ◌∷◌}
use Rattle.sei_words.specs.Layout.{flags_offset, unique_offset, value_offset}
use Rattle.sei_stmt.specs.declared.stmt.Stmt.{Stmt}
use Rattle.sei_stmt.specs.declared.stmt.Stmt.TheVariants.{Const, Move, Add, Input, Load, Emit}
use Rattle.sei_stmt.specs.Programs.{Prog, Block, Seq, IfEq, RepeatLt}
use Rattle.tab_find.specs.Inputs.{unique_index}
use Rattle.tab_find.specs.Registers.{r_zero, r_one, r_key_words, r_place, r_address, r_word, r_index, r_other, r_limit, r_passed, r_flags, r_unique, r_value_length, r_noreply, r_eight}

-- where the words go that a program reads: to the output
pub data Sink : Type 0 where
  Out : Sink

abbrev pub sink_stmt : Sink → Stmt
sink_stmt Out = Emit r_word

-- the words of the bucket from r_address up to the address in r_limit, of which there is one at least
abbrev pub read_run : Sink → Prog
read_run sink = RepeatLt r_address r_limit (Block (Load r_word r_address ∷ sink_stmt sink ∷ Add r_address r_address r_one ∷ []))

-- the flags, the cas unique and the length of the value of the slot at r_place, and the run of its key's words
abbrev pub load_item : Prog
load_item =
    Block (Const r_address flags_offset ∷ Add r_address r_place r_address ∷ Load r_flags r_address ∷
    Add r_address r_address r_one ∷ Add r_address r_address r_one ∷ Load r_unique r_address ∷
    Add r_address r_address r_one ∷ Load r_value_length r_address ∷
    Add r_address r_address r_one ∷ Add r_limit r_address r_key_words ∷ [])

-- the cas unique of the item in the slot at r_place, and the one that the call names
abbrev pub load_uniques : Prog
load_uniques =
    Block (Const r_address unique_offset ∷ Add r_address r_place r_address ∷ Load r_word r_address ∷
    Const r_index unique_index ∷ Input r_other r_index ∷ [])

-- the value of the slot at r_place, whose length in bytes is in r_value_length: a word for each eight bytes that are begun
abbrev pub read_value : Sink → Prog
read_value sink =
    Seq (Block (Const r_address value_offset ∷ Add r_address r_place r_address ∷ Move r_passed r_zero ∷ Const r_eight 8 ∷ []))
    (IfEq r_value_length r_zero (Block [])
    (RepeatLt r_passed r_value_length (Block (Load r_word r_address ∷ sink_stmt sink ∷ Add r_address r_address r_one ∷ Add r_passed r_passed r_eight ∷ []))))

-- text n of the table of texts. The kind of a text is 0
abbrev pub say : ℕ → Prog
say n = Block (Emit r_zero ∷ Const r_address n ∷ Emit r_address ∷ [])

-- the program, or nothing if no reply is wanted
abbrev pub if_wanted : Prog → Prog
if_wanted p = IfEq r_noreply r_zero p (Block [])

-- a text, if a reply is wanted
abbrev pub answer_text : ℕ → Prog
answer_text n = if_wanted (say n)
