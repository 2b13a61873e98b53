-- The programs of the moment, of the find, and for a free slot.
use Rattle.std.specs.Prelude.{List, [], ◌∷◌, ◌++◌}
use Rattle.mc_model.specs.declared.geometry.Geometry.{Geometry}
use Rattle.sei_words.specs.Layout.{width, word_count, first_slot, expiry_offset, key_offset}
use Rattle.sei_stmt.specs.declared.stmt.Stmt.{Stmt}
use Rattle.sei_stmt.specs.declared.stmt.Stmt.TheVariants.{Alloc, Const, Move, Add, Sub, Input, Load, Store, Now}
use Rattle.sei_stmt.specs.Programs.{Prog, Block, Seq, IfEq, IfLt, RepeatLt}
use Rattle.tab_find.specs.Inputs.{hash_index, key_words_index, key_index}
use Rattle.tab_find.specs.Registers.{r_zero, r_moment, r_one, r_expiry_offset, r_width, r_end, r_key_length, r_hash, r_key_words, r_place, r_base, r_address, r_word, r_index, r_limit, r_other, r_slot}

-- The moment. Word 0 and the moment's register become the largest of 1, the old moment and the time. r_zero is 0 from the start.

abbrev pub constants : Geometry → List Stmt
constants g = Const r_one 1 ∷ Const r_expiry_offset expiry_offset ∷ Const r_width (width g) ∷ Const r_end (word_count g) ∷ []

abbrev pub moment_program : Geometry → Prog
moment_program g =
    Seq (Block (Now r_word ∷ (constants g ++ Load r_moment r_zero ∷ [])))
    (Seq (IfLt r_word r_moment (Block []) (Seq (Block (Move r_moment r_word ∷ [])) (IfLt r_zero r_moment (Block []) (Block (Move r_moment r_one ∷ [])))))
    (Block (Store r_zero r_moment ∷ [])))

-- The find. It tests the slots in order while they begin below the place, which is the end of all slots until one fits.
-- It leaves each slot at the first word that does not fit.

-- one key word against one input word: a word that differs resets the place and ends the comparison
abbrev pub compare_turn : Prog
compare_turn =
    Seq (Block (Load r_word r_address ∷ Input r_other r_index ∷ []))
    (IfEq r_word r_other
    (Block (Add r_address r_address r_one ∷ Add r_index r_index r_one ∷ []))
    (Block (Move r_place r_end ∷ Move r_index r_limit ∷ [])))

-- the key words of the slot at the base against those of the input: the slot is the place, unless a word differs
abbrev pub compare_key : Prog
compare_key =
    Seq (Block (Const r_address key_offset ∷ Add r_address r_base r_address ∷ Const r_index key_index ∷ Add r_limit r_index r_key_words ∷ Move r_place r_base ∷ []))
    (RepeatLt r_index r_limit compare_turn)

-- the key length, and then the key
abbrev pub look_length : Prog
look_length = Seq (Block (Add r_address r_address r_one ∷ Load r_word r_address ∷ [])) (IfEq r_word r_key_length compare_key (Block []))

-- the hash, and then the rest
abbrev pub look_hash : Prog
look_hash = Seq (Block (Add r_address r_base r_one ∷ Load r_word r_address ∷ [])) (IfEq r_word r_hash look_length (Block []))

-- the expiry, and then the rest. An item has expired if one less than its expiry is below the moment; no expiry, which is 0,
-- gives the last number, and no moment is above that
abbrev pub look_expiry : Prog
look_expiry =
    Seq (Block (Add r_address r_base r_expiry_offset ∷ Load r_word r_address ∷ Sub r_word r_word r_one ∷ []))
    (IfLt r_word r_moment (Block []) look_hash)

-- the slot at the base: it is the place if it is taken and has the key
abbrev pub look : Prog
look = Seq (Block (Load r_word r_base ∷ [])) (IfEq r_word r_zero (Block []) look_expiry)

abbrev pub find_turn : Prog
find_turn = Seq look (Block (Add r_base r_base r_width ∷ []))

-- the call's key, and the first slot. The index of the key's length is 1
abbrev pub find_start : Prog
find_start =
    Block (Input r_key_length r_one ∷ Const r_index hash_index ∷ Input r_hash r_index ∷ Const r_index key_words_index ∷ Input r_key_words r_index ∷
    Const r_base first_slot ∷ Move r_place r_end ∷ [])

abbrev pub find_program : Prog
find_program = Seq find_start (RepeatLt r_base r_place find_turn)

-- A free slot.

-- the address at which the slot in r_slot begins; r_slot is counted down to 0
abbrev pub address_program : Prog
address_program =
    Seq (Block (Const r_place first_slot ∷ []))
    (IfEq r_slot r_zero (Block []) (RepeatLt r_zero r_slot (Block (Add r_place r_place r_width ∷ Sub r_slot r_slot r_one ∷ []))))

-- the address at which a free slot begins, or the address after the last slot if none is free
abbrev pub free_program : Prog
free_program = Seq (Block (Alloc r_slot r_moment ∷ [])) address_program
