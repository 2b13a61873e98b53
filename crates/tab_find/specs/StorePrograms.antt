-- The programs that change the words of a bucket.
use Rattle.std.specs.Prelude.{ℕ, ◌-◌, ◌^◌, List, [], ◌∷◌, ◌++◌}
use Rattle.sei_words.specs.Layout.{first_slot, flags_offset, value_offset}
use Rattle.mc_model.specs.Items.{thirty_days}
use Rattle.sei_stmt.specs.declared.stmt.Stmt.{Stmt}
use Rattle.sei_stmt.specs.declared.stmt.Stmt.TheVariants.{Const, Move, Add, Input, Load, Store}
use Rattle.sei_stmt.specs.Programs.{Prog, Block, Seq, IfEq, IfLt, RepeatLt}
use Rattle.tab_find.specs.Inputs.{flags_index, negative_index, exptime_index, block_length_index, block_words_index, key_index}
use Rattle.tab_find.specs.Registers.{r_zero, r_moment, r_one, r_expiry_offset, r_width, r_end, r_key_length, r_hash, r_key_words, r_place, r_address, r_word, r_index, r_limit, r_flags, r_expiry, r_unique, r_value_length, r_value_words}

-- Runs of words.

-- one input word to the word at the address
abbrev pub copy_turn : List Stmt
copy_turn = Input r_word r_index ∷ Store r_address r_word ∷ Add r_address r_address r_one ∷ Add r_index r_index r_one ∷ []

-- the input words from r_index up to the index in `limit`, of which there is one at least, to the words from r_address on
abbrev pub copy_run : ℕ → Prog
copy_run limit = RepeatLt r_index limit (Block copy_turn)

-- the value of the slot at r_place becomes as many input words as r_value_words says, from this index on
abbrev pub store_value : ℕ → Prog
store_value index =
    Seq (Block (Const r_address value_offset ∷ Add r_address r_place r_address ∷ Const r_index index ∷ Add r_limit r_index r_value_words ∷ []))
    (IfEq r_value_words r_zero (Block []) (copy_run r_limit))

-- What an item has before its value. Its fields are in the registers, r_flags to r_value_length.

-- the flags, the expiry, the cas unique and the length of the value, from the address on
abbrev pub item_fields : List Stmt
item_fields =
    Store r_address r_flags ∷
    Add r_address r_address r_one ∷ Store r_address r_expiry ∷
    Add r_address r_address r_one ∷ Store r_address r_unique ∷
    Add r_address r_address r_one ∷ Store r_address r_value_length ∷ []

-- the item in the slot at r_place keeps its key, and gets these fields
abbrev pub replace_fields : Prog
replace_fields = Block (Const r_address flags_offset ∷ Add r_address r_place r_address ∷ item_fields)

-- the seven words at the head of a new item, from r_place on, and then to its key and the call's
abbrev pub new_head : Prog
new_head =
    Block (Move r_address r_place ∷ Store r_address r_one ∷
    Add r_address r_address r_one ∷ Store r_address r_hash ∷
    Add r_address r_address r_one ∷ Store r_address r_key_length ∷
    Add r_address r_address r_one ∷
    (item_fields ++ Add r_address r_address r_one ∷ Const r_index key_index ∷ []))

-- a new item in the slot at r_place has these fields and the call's key
abbrev pub new_fields : Prog
new_fields = Seq new_head (Seq (Block (Add r_limit r_index r_key_words ∷ [])) (copy_run r_limit))

-- One program for each kind of change that a call can make. An item that is put has two: one for the whole item, and
-- one for its expiry alone. Each ends a command.

-- the next cas unique: the counter rises by one
abbrev pub draw : Prog
draw = Block (Load r_unique r_one ∷ Add r_unique r_unique r_one ∷ Store r_one r_unique ∷ [])

-- nothing changes
abbrev pub keep_program : Prog
keep_program = Block []

-- the item in the slot at r_place is replaced by the one in the registers, whose value begins at this input index
abbrev pub put_program : ℕ → Prog
put_program index = Seq replace_fields (store_value index)

-- the item in the slot at r_place gets the expiry in r_expiry, and all else of it stays
abbrev pub put_expiry_program : Prog
put_expiry_program = Block (Add r_address r_place r_expiry_offset ∷ Store r_address r_expiry ∷ [])

-- the item in the slot at r_place is replaced by one with a drawn unique, whose value begins at this input index
abbrev pub draw_program : ℕ → Prog
draw_program index = Seq draw (put_program index)

-- a new item with a drawn unique is made in the free slot at r_place
abbrev pub make_program : ℕ → Prog
make_program index = Seq draw (Seq new_fields (store_value index))

-- the item in the slot at r_place is removed: a slot whose first word is 0 is free
abbrev pub remove_program : Prog
remove_program = Block (Store r_place r_zero ∷ [])

-- one slot becomes free, and the address becomes that of the next one
abbrev pub clear_turn : List Stmt
clear_turn = Store r_address r_zero ∷ Add r_address r_address r_width ∷ []

-- all items are removed: each slot, of which there is one at least, becomes free
abbrev pub clear_program : Prog
clear_program = Seq (Block (Const r_address first_slot ∷ [])) (RepeatLt r_address r_end (Block clear_turn))

-- The item that a call spells.

-- its flags, the length of its block, and the number of the block's words
abbrev pub load_call : Prog
load_call =
    Block (Const r_index flags_index ∷ Input r_flags r_index ∷
    Const r_index block_length_index ∷ Input r_value_length r_index ∷
    Const r_index block_words_index ∷ Input r_value_words r_index ∷ [])

-- an exptime of up to 30 days is counted from the moment, and at most the last number
abbrev pub expiry_from_moment : Prog
expiry_from_moment =
    Seq (Block (Add r_expiry r_moment r_expiry ∷ []))
    (IfLt r_expiry r_moment (Block (Const r_expiry (2 ^ 64 - 1) ∷ [])) (Block []))

-- an exptime that is not 0
abbrev pub expiry_given : Prog
expiry_given =
    Seq (Block (Const r_index negative_index ∷ Input r_word r_index ∷ Const r_limit thirty_days ∷ []))
    (IfEq r_word r_one (Block (Move r_expiry r_one ∷ []))
    (IfLt r_limit r_expiry (Block []) expiry_from_moment))

-- the expiry that the call asks for
abbrev pub expiry_program : Prog
expiry_program = Seq (Block (Const r_index exptime_index ∷ Input r_expiry r_index ∷ [])) (IfEq r_expiry r_zero (Block []) expiry_given)
