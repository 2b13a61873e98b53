-- The indexes of the input words of a call.
use Rattle.std.specs.Prelude.{ℕ}

abbrev pub verb_index : ℕ
verb_index = 0

-- the length of the key in bytes, and its hash
abbrev pub key_length_index : ℕ
key_length_index = 1

abbrev pub hash_index : ℕ
hash_index = 2

abbrev pub flags_index : ℕ
flags_index = 3

-- 1 if exptime is negative, else 0; and its absolute value
abbrev pub negative_index : ℕ
negative_index = 4

abbrev pub exptime_index : ℕ
exptime_index = 5

-- the cas unique of the call, and the number that is added or taken away
abbrev pub unique_index : ℕ
unique_index = 6

abbrev pub value_index : ℕ
value_index = 7

-- the length of the block in bytes
abbrev pub block_length_index : ℕ
block_length_index = 8

-- the marks of the call
abbrev pub last_index : ℕ
last_index = 9

abbrev pub noreply_index : ℕ
noreply_index = 10

abbrev pub text_index : ℕ
text_index = 11

-- the numbers of words of the key and of the block
abbrev pub key_words_index : ℕ
key_words_index = 12

abbrev pub block_words_index : ℕ
block_words_index = 13

-- the words of the key, of which there is room for 32
abbrev pub key_index : ℕ
key_index = 14

abbrev pub block_index : ℕ
block_index = 46
