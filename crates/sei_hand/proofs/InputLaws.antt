-- How many the input words are.
use Rattle.std.proofs.Common.{◌≡◌, ℕ, ◌-◌, ◌*◌, ◌≤◌, List, ◌++◌, length, arith, length-append}
use Rattle.std.specs.Prelude.{replicate}
use Rattle.std.proofs.lemmas.List.{length-replicate}
use Rattle.mc_model.specs.declared.geometry.Geometry.{Geometry}
use Rattle.mc_model.specs.Call.{Call}
use Rattle.mc_model.specs.Packed.{pack}
use Rattle.mc_model.proofs.PublicPacking.{length_pack}
use Rattle.sei_hand.specs.InputWords.{field_words, filled_up, key_words, input_words, filled_input}
use Rattle.sei_pass.specs.Spaces.{input_room}

pub length_filled_up : (n : ℕ) (ws : List ℕ) → length ws ≤ n → length (filled_up n ws) ≡ n
length_filled_up n ws h = omega (arith, length-append ws (replicate (n - length ws) 0), length-replicate {A = ℕ} (n - length ws) 0)

pub length_input_words : (g : Geometry) (c : Call) → length c.key ≤ 250 → length c.block ≤ 8 * g.value_words → length (input_words g c) ≡ input_room g
unfolding filled_input
length_input_words g c k b =
    let key : length (pack c.key) ≤ 32 = omega (arith, length_pack c.key) in
    let block : length (pack c.block) ≤ g.value_words = omega (arith, length_pack c.block) in
    omega (
      arith,
      length-append (field_words c ++ filled_up key_words (pack c.key)) (filled_up g.value_words (pack c.block)),
      length-append (field_words c) (filled_up key_words (pack c.key)),
      length_filled_up key_words (pack c.key) key,
      length_filled_up g.value_words (pack c.block) block,
    )
