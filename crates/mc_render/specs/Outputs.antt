-- The outputs that make up a reply: their bytes, and the words that stand for them.
use Rattle.std.specs.Prelude.{ℕ, ◌==◌, ◌&&◌, ◌<◌, ◌≤◌, nat_le, nat_lt, List, [], ◌∷◌, ◌++◌, codes, Option, Some, None, length, drop, if◌then◌else◌}
use Rattle.std.specs.Option.{option_map, option_and_then}
use Rattle.std.specs.Fmt.{decimal}
use Rattle.mc_model.specs.Bucket.{Item}
use Rattle.mc_model.specs.Packed.{AreBytes, words_for, pack, unpacked}
use Rattle.mc_model.specs.Replies.{value_text, unique_text}
use Rattle.mc_model.specs.Texts.{text_count, line, text_line}
use Rattle.mc_render.specs.Shown.{Shown, shown}
use Rattle.mc_render.specs.declared.output.Output.{Output}
use Rattle.mc_render.specs.declared.output.Output.TheVariants.{Text, Value, Number}

-- the first line of an item, without its end
abbrev pub value_head : Shown → List ℕ
value_head s = codes "VALUE " ++ s.key ++ codes " " ++ decimal s.item.flags ++ codes " " ++ decimal (length s.item.value) ++ unique_text s.with_unique s.item.unique

-- a fixed text, an item of the cache, or a number on its line
abbrev pub output_text : Output → List ℕ
output_text (Text number) = text_line number
output_text (Value s) = value_text s.with_unique s.key s.item
output_text (Number n) = line (decimal n)

-- a text is one of the table
abbrev pub IsKnown : Output → Type 0
IsKnown (Text number) = number < text_count
IsKnown (Value s) = Unit {0}
IsKnown (Number n) = Unit {0}

-- the first n bytes that are packed into the words, and the words after them
abbrev pub first_bytes : ℕ → List ℕ → Option (List ℕ × List ℕ)
first_bytes n ws = if nat_le (words_for n) (length ws) then Some (unpacked n ws, drop (words_for n) ws) else None

-- a text of the table
abbrev pub first_text : List ℕ → Option (Output × List ℕ)
first_text (number ∷ ws) = if nat_lt number text_count then Some (Text number, ws) else None
first_text [] = None

-- an item with its cas unique or without, a key of 1 to 250 bytes, and a value of at most `limit` bytes
abbrev pub first_value : ℕ → List ℕ → Option (Output × List ℕ)
first_value limit (with_unique ∷ key_length ∷ flags ∷ value_length ∷ unique ∷ ws) =
    if nat_le with_unique 1 && nat_le 1 key_length && nat_le key_length 250 && nat_le value_length limit
    then option_and_then (λ k. option_map (λ v. (Value (shown (with_unique == 1) k.0 flags unique v.0), v.1)) (first_bytes value_length k.1)) (first_bytes key_length ws)
    else None
first_value limit _ = None

abbrev pub first_number : List ℕ → Option (Output × List ℕ)
first_number (n ∷ ws) = Some (Number n, ws)
first_number [] = None

-- the first word of an output is the number of its kind
abbrev pub text_kind : ℕ
text_kind = 0

abbrev pub value_kind : ℕ
value_kind = 1

abbrev pub number_kind : ℕ
number_kind = 2

-- the words that show an item, with its cas unique if cas is 1, and then ws
abbrev pub value_words : ℕ → List ℕ → Item → List ℕ → List ℕ
value_words cas key x ws = value_kind ∷ cas ∷ length key ∷ x.flags ∷ length x.value ∷ x.unique ∷ (pack key ++ (pack x.value ++ ws))

-- they are read as this item, if values have at most `limit` bytes
pub record CanShow (limit cas : ℕ) (key : List ℕ) (x : Item) : Type 0 where
  pub marked : cas ≤ 1
  pub key_bytes : AreBytes key
  pub some_key : 1 ≤ length key
  pub short_key : length key ≤ 250
  pub value_bytes : AreBytes x.value
  pub short_value : length x.value ≤ limit

-- the output that the words begin with, and the words after it
abbrev pub first_output : ℕ → List ℕ → Option (Output × List ℕ)
first_output limit (kind ∷ ws) =
    if kind == text_kind then first_text ws
    else if kind == value_kind then first_value limit ws
    else if kind == number_kind then first_number ws
    else None
first_output limit [] = None
