-- The fields of a line.
use Rattle.std.specs.Prelude.{ℕ, ◌+◌, ◌-◌, ◌^◌, Bool, true, false, not, ◌&&◌, ◌||◌, ◌==◌, nat_le, nat_lt, List, [], ◌∷◌, Option, Some, None, length, codes, if◌then◌else◌}
use Rattle.std.specs.List.{list_all}
use Rattle.std.specs.Str.{bytes_eq}
use Rattle.mc_model.specs.Numbers.{number_upto}
use Rattle.mc_text.specs.declared.fields.Item.{Item}
use Rattle.mc_text.specs.Bounds.{longest_key}
use Rattle.mc_text.specs.Words.{arg}

-- no NUL, LF, CR or space
abbrev pub is_key_byte : ℕ → Bool
is_key_byte b = not (b == 0 || b == 10 || b == 13 || b == 32)

-- 1 to 250 such bytes
abbrev pub is_key : List ℕ → Bool
is_key w = nat_lt 0 (length w) && nat_le (length w) longest_key && list_all is_key_byte w

-- how many words, if all of them are keys
abbrev pub keys_in : List (List ℕ) → Option ℕ
keys_in ws = if list_all is_key ws then Some (length ws) else None

-- `-0` is not negative
abbrev pub signed : Bool → Option ℕ → Option (Bool × ℕ)
signed negative None = None
signed negative (Some n) = Some (negative && not (n == 0), n)

-- whether it is negative, and its number; 45 is a `-`
abbrev pub exptime_of : List ℕ → Option (Bool × ℕ)
exptime_of [] = None
exptime_of (b ∷ bs) = if b == 45 then signed true (number_upto (2 ^ 63 - 1) bs) else signed false (number_upto (2 ^ 63 - 1) (b ∷ bs))

-- its flags, its exptime and the size of its block, if each has its form
abbrev pub item_with : Option ℕ → Option (Bool × ℕ) → Option ℕ → Option Item
item_with None e bytes = None
item_with (Some flags) None bytes = None
item_with (Some flags) (Some e) None = None
item_with (Some flags) (Some e) (Some bytes) = Some (record { flags = flags; negative = e.0; exptime = e.1; bytes = bytes })

-- the item that a key, flags, an exptime and a size spell, if each has its form
unfoldable pub item_of : List ℕ → List ℕ → List ℕ → List ℕ → Option Item
item_of key flags exptime bytes =
    if is_key key then item_with (number_upto (2 ^ 32 - 1) flags) (exptime_of exptime) (number_upto (2 ^ 32 - 1) bytes) else None

abbrev pub is_noreply : List ℕ → Bool
is_noreply w = bytes_eq w (codes "noreply")

-- n words, or one more that is `noreply`
abbrev pub has_words : List (List ℕ) → ℕ → Bool
has_words ws n = (length ws == n) || ((length ws == n + 1) && is_noreply (arg ws n))
