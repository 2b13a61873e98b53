-- Escaped text.
use Rattle.std.specs.Prelude.{ℕ, ◌+◌, ◌-◌, ◌*◌, ◌/◌, ◌%◌, ◌&&◌, List, [], ◌∷◌, ◌++◌, nat_le, nat_lt, if◌then◌else◌, ◌==◌, Option, Some, None, ⊤, ◌<◌}
use Rattle.std.specs.Option.{option_map, option_to_list}
use Rattle.std.specs.List.{flat_map}
use Rattle.sei_script.specs.declared.escapes.Step.{Step}
use Rattle.sei_script.specs.declared.escapes.Place.{Place}
use Rattle.sei_script.specs.declared.escapes.Place.TheVariants.{Plain, Escape, High, Low}

-- the value of a lower-case hexadecimal digit
abbrev pub hex_value : ℕ → Option ℕ
hex_value b =
    if nat_le 48 b && nat_le b 57 then Some (b - 48)
    else (if nat_le 97 b && nat_le b 102 then Some (b - 87) else None)

-- what a hexadecimal digit leads to, where there is one
abbrev pub at_digit : Option ℕ → (ℕ → Step) → Option Step
at_digit None f = None
at_digit (Some d) f = Some (f d)

-- what a byte leads to; None: no escape
abbrev pub step_of : Place → ℕ → Option Step
step_of Plain b = if b == 92 then Some (record { place = Escape; gives = None }) else Some (record { place = Plain; gives = Some b })
step_of Escape b =
    if b == 114 then Some (record { place = Plain; gives = Some 13 })
    else (if b == 110 then Some (record { place = Plain; gives = Some 10 })
    else (if b == 92 then Some (record { place = Plain; gives = Some 92 })
    else (if b == 120 then Some (record { place = High; gives = None }) else None)))
step_of High b = at_digit (hex_value b) (λ d. record { place = Low d; gives = None })
step_of (Low h) b = at_digit (hex_value b) (λ d. record { place = Plain; gives = Some (16 * h + d) })

-- the digit in a place is one
abbrev pub IsPlace : Place → Type 0
IsPlace Plain = ⊤
IsPlace Escape = ⊤
IsPlace High = ⊤
IsPlace (Low h) = h < 16

abbrev pub joined : List ℕ → Option (List ℕ) → Option (List ℕ)
joined xs o = option_map (λ ys. xs ++ ys) o

-- a step, and then what is left from its place
abbrev pub unescaped_behind : Option Step → (Place → Option (List ℕ)) → Option (List ℕ)
unescaped_behind None f = None
unescaped_behind (Some step) f = joined (option_to_list step.gives) (f step.place)

-- what is left of an escaped text means, from a place in it
abbrev pub unescaped_from : Place → List ℕ → Option (List ℕ)
unescaped_from Plain [] = Some []
unescaped_from Escape [] = None
unescaped_from High [] = None
unescaped_from (Low h) [] = None
unescaped_from place (b ∷ bs) = unescaped_behind (step_of place b) (λ p. unescaped_from p bs)

-- the bytes of an escaped text
abbrev pub unescaped : List ℕ → Option (List ℕ)
unescaped text = unescaped_from Plain text

-- the digit of a number below 16
abbrev pub hex_digit : ℕ → ℕ
hex_digit n = if nat_lt n 10 then n + 48 else n + 87

-- how a byte is printed: as itself from 32 to 126, but for the backslash; all others as an escape
abbrev pub escape_of : ℕ → List ℕ
escape_of b =
    if b == 13 then 92 ∷ 114 ∷ []
    else (if b == 10 then 92 ∷ 110 ∷ []
    else (if b == 92 then 92 ∷ 92 ∷ []
    else (if nat_le 32 b && nat_le b 126 then b ∷ []
    else 92 ∷ 120 ∷ hex_digit (b / 16) ∷ hex_digit (b % 16) ∷ [])))

-- how bytes are printed
abbrev pub escaped : List ℕ → List ℕ
escaped bytes = flat_map escape_of bytes
