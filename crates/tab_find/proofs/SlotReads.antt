-- Addresses in a slot, and the words that are read there.
use Rattle.std.proofs.Common.{◌≡◌, ℕ, ◌+◌, ◌%◌, ◌^◌, ◌<◌, ◌≤◌, List, length, sym, subst, arith}
use Rattle.std.specs.Prelude.{slice_index}
use Rattle.mc_model.specs.declared.geometry.Geometry.{Geometry}
use Rattle.mc_model.specs.Server.{IsValid}
use Rattle.sei_words.specs.Layout.{slot_at, word_count, value_offset, field}
use Rattle.sei_words.proofs.PublicLayout.{slot_within, width_is, field_within, few_words}
use Rattle.sei_stmt.specs.Programs.{HasWord}
use Rattle.tab_find.proofs.MachineLaws.{sum_is, word_is}

-- the word that is read, if it is known what stands there
pub word_stands : (words : List ℕ) (a b v : ℕ) → a ≡ b → b < length words → slice_index words b ≡ v → HasWord words a v
word_stands words a b v e lt is = subst (HasWord words a) is (word_is words a b e lt)

-- a word of a slot
pub loads : (g : Geometry) (ws words : List ℕ) (i a k : ℕ) → length ws ≡ word_count g → words ≡ ws → i < g.slots → a ≡ slot_at g i + k → k < value_offset → HasWord words a (field g ws i k)
loads g ws words i a k size same lt is h =
    let fit : slot_at g i + k < length ws = omega (arith, field_within g i k lt h, size) in
    subst (λ l. HasWord l a (field g ws i k)) (sym same) (word_is ws a (slot_at g i + k) is fit)

-- an address in a slot goes on
pub goes_on : (g : Geometry) (i x y a b : ℕ) → IsValid g → i < g.slots → x ≡ slot_at g i + a → y ≡ b → a + b ≤ value_offset → (x + y) % 2 ^ 64 ≡ slot_at g i + (a + b)
goes_on g i x y a b v lt ex ey h =
    sum_is _ _ _ (omega (arith, ex, ey)) (omega (arith, slot_within g i lt, width_is g, h, few_words g v))
