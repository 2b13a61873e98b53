-- What output words render to.
use Rattle.std.specs.Prelude.{ℕ, zero, suc, nat_le, List, [], ◌∷◌, Option, Some, None, length, if◌then◌else◌}
use Rattle.std.specs.Option.{option_map, option_and_then}
use Rattle.std.specs.List.{flat_map}
use Rattle.sei_code.specs.declared.modes.Rendered.{Rendered}
use Rattle.sei_code.specs.declared.modes.Rendered.TheVariants.{Done, Full, Bad}
use Rattle.mc_render.specs.declared.output.Output.{Output}
use Rattle.mc_render.specs.Outputs.{output_text, first_output}

-- the outputs that the words are, to their end, if there are at most `most` of them
abbrev pub outputs_upto : ℕ → ℕ → List ℕ → Option (List Output)
outputs_upto most limit [] = Some []
outputs_upto zero limit (w ∷ ws) = None
outputs_upto (suc most) limit (w ∷ ws) = option_and_then (λ o. option_map (λ xs. o.0 ∷ xs) (outputs_upto most limit o.1)) (first_output limit (w ∷ ws))

-- The bytes of all outputs, or nothing if the words are malformed. A value has at most `limit` bytes. There are never
-- more outputs than words.
unfoldable pub rendered : ℕ → List ℕ → Option (List ℕ)
rendered limit ws = option_map (flat_map output_text) (outputs_upto (length ws) limit ws)

-- what becomes of a reply in a buffer of this room
abbrev pub answer_of : ℕ → Option (List ℕ) → Rendered
answer_of room None = Bad
answer_of room (Some bs) = if nat_le (length bs) room then Done else Full

-- the bytes in a buffer of this room: none if the words are malformed, or if the bytes do not fit
abbrev pub bytes_of : ℕ → Option (List ℕ) → List ℕ
bytes_of room None = []
bytes_of room (Some bs) = if nat_le (length bs) room then bs else []
