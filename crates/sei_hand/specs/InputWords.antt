-- The input words: what the statements of a pass read of a call.
use Rattle.std.specs.Prelude.{ℕ, ◌-◌, List, [], ◌∷◌, ◌++◌, length, replicate}
use Rattle.sei_code.specs.Codes.{fnv64}
use Rattle.mc_model.specs.declared.geometry.Geometry.{Geometry}
use Rattle.mc_model.specs.declared.call.Verb.{Verb}
use Rattle.mc_model.specs.declared.call.Verb.TheVariants.{Flush, Fixed}
use Rattle.mc_model.specs.Call.{Call, verb_number}
use Rattle.mc_model.specs.Packed.{words_for, pack}
use Rattle.tab_find.specs.Calls.{mark}

-- the hash of the key, if the command is one on a key
abbrev pub hash_word : Verb → List ℕ → ℕ
hash_word Flush key = 0
hash_word Fixed key = 0
hash_word verb key = fnv64 key

-- words 0 to 13: the fields, and how many words the key and the block take. Fields that the command does not have are
-- 0.
abbrev pub field_words : Call → List ℕ
field_words c =
    verb_number c.verb ∷ length c.key ∷ hash_word c.verb c.key ∷ c.flags ∷ mark c.negative ∷ c.exptime ∷ c.unique ∷ c.value ∷ length c.block
    ∷ mark c.last ∷ mark c.noreply ∷ c.text ∷ words_for (length c.key) ∷ words_for (length c.block) ∷ []

-- filled up with zeros to n words
abbrev pub filled_up : ℕ → List ℕ → List ℕ
filled_up n ws = ws ++ replicate (n - length ws) 0

-- as many words as the longest key takes
abbrev pub key_words : ℕ
key_words = 32

-- The fields, then the key from word 14 on, then the block from word 46 on. Both are filled up, the block to n words.
unfoldable pub filled_input : ℕ → Call → List ℕ
filled_input n c = field_words c ++ filled_up key_words (pack c.key) ++ filled_up n (pack c.block)

-- Every call of a geometry has as many words, so the room for them is known before any request is read.
abbrev pub input_words : Geometry → Call → List ℕ
input_words g c = filled_input g.value_words c
