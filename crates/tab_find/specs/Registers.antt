-- The registers of a table's programs, by name. 24 to 27 are free for a command's own use.
use Rattle.std.specs.Prelude.{ℕ}

-- 0 to 5 are constants, which are set once, with the moment

abbrev pub r_zero : ℕ
r_zero = 0

-- the moment of the bucket
abbrev pub r_moment : ℕ
r_moment = 1

abbrev pub r_one : ℕ
r_one = 2

-- where in a slot its expiry is
abbrev pub r_expiry_offset : ℕ
r_expiry_offset = 3

-- the number of words of a slot
abbrev pub r_width : ℕ
r_width = 4

-- the address after the last slot
abbrev pub r_end : ℕ
r_end = 5

-- 6 to 8 are the call's key, which the find loads: its length in bytes, its hash, and the number of its words

abbrev pub r_key_length : ℕ
r_key_length = 6

abbrev pub r_hash : ℕ
r_hash = 7

abbrev pub r_key_words : ℕ
r_key_words = 8

-- the address at which the slot begins that was found or given, or the address after the last slot if there is none
abbrev pub r_place : ℕ
r_place = 10

-- the address at which the slot begins that the find looks at
abbrev pub r_base : ℕ
r_base = 11

-- 12 to 17 are each program's scratch registers: an address, a word, the index of an input word, and a second word. The
-- last two are the end of a run of words, and how many bytes of a value are done

abbrev pub r_address : ℕ
r_address = 12

abbrev pub r_word : ℕ
r_word = 13

abbrev pub r_index : ℕ
r_index = 14

abbrev pub r_other : ℕ
r_other = 15

abbrev pub r_limit : ℕ
r_limit = 16

abbrev pub r_passed : ℕ
r_passed = 17

-- 18 to 22 are the fields of an item, and the number of words of the value that is to be stored

abbrev pub r_flags : ℕ
r_flags = 18

abbrev pub r_expiry : ℕ
r_expiry = 19

abbrev pub r_unique : ℕ
r_unique = 20

abbrev pub r_value_length : ℕ
r_value_length = 21

abbrev pub r_value_words : ℕ
r_value_words = 22

-- the slot that Alloc gave
abbrev pub r_slot : ℕ
r_slot = 23

-- the command of the call, and the marks that it is its request's last and that no reply is wanted
abbrev pub r_verb : ℕ
r_verb = 24

abbrev pub r_last : ℕ
r_last = 25

abbrev pub r_noreply : ℕ
r_noreply = 26

-- the number of a command or of a text
abbrev pub r_number : ℕ
r_number = 27

-- how many bytes a word holds
abbrev pub r_eight : ℕ
r_eight = 28
