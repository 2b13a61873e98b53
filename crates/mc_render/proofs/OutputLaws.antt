-- What lists of output words render to.
use Rattle.std.proofs.Common.{◌≡◌, ℕ, ◌<◌, ◌≤◌, ◌==◌, List, ◌∷◌, ◌++◌, length, refl}
use Rattle.std.specs.Option.{option_map}
use Rattle.std.specs.Fmt.{decimal}
use Rattle.std.proofs.lemmas.Bool.{le-leb, lt-ltb}
use Rattle.mc_model.specs.Bucket.{Item}
use Rattle.mc_model.specs.Packed.{AreBytes, pack}
use Rattle.mc_model.specs.Replies.{value_text}
use Rattle.mc_model.specs.Texts.{line, text_line}
use Rattle.mc_render.specs.Shown.{shown}
use Rattle.mc_render.specs.Outputs.{value_words, CanShow}
use Rattle.mc_render.specs.Rendering.{rendered}
use Rattle.mc_render.specs.declared.output.Output.TheVariants.{Text, Value, Number}
use Rattle.mc_render.proofs.RenderedLaws.{rendered_some}
use Rattle.mc_render.proofs.UnpackLaws.{packed_first}

pub rendered_text : (limit n : ℕ) (ws : List ℕ) → n < 17 → rendered limit (0 ∷ n ∷ ws) ≡ option_map (λ bs. text_line n ++ bs) (rendered limit ws)
rendered_text limit n ws h = rendered_some limit (0 ∷ n ∷ ws) ws (Text n) (rw (lt-ltb n 17 h) refl)

pub rendered_number : (limit n : ℕ) (ws : List ℕ) → rendered limit (2 ∷ n ∷ ws) ≡ option_map (λ bs. line (decimal n) ++ bs) (rendered limit ws)
rendered_number limit n ws = rendered_some limit (2 ∷ n ∷ ws) ws (Number n) refl

pub rendered_value : (limit cas : ℕ) (k : List ℕ) (x : Item) (ws : List ℕ) →
    cas ≤ 1 → AreBytes k → 1 ≤ length k → length k ≤ 250 → AreBytes x.value → length x.value ≤ limit →
    rendered limit (1 ∷ cas ∷ length k ∷ x.flags ∷ length x.value ∷ x.unique ∷ (pack k ++ (pack x.value ++ ws))) ≡ option_map (λ bs. value_text (cas == 1) k x ++ bs) (rendered limit ws)
rendered_value limit cas k x ws hc bk low high bv fits =
    rendered_some limit _ ws (Value (shown (cas == 1) k x.flags x.unique x.value))
    (rw (le-leb cas 1 hc, le-leb 1 (length k) low, le-leb (length k) 250 high, le-leb (length x.value) limit fits, packed_first k (pack x.value ++ ws) bk, packed_first x.value ws bv) refl)

pub rendered_shown : (limit cas : ℕ) (key : List ℕ) (x : Item) (ws : List ℕ) → CanShow limit cas key x → rendered limit (value_words cas key x ws) ≡ option_map (λ bs. value_text (cas == 1) key x ++ bs) (rendered limit ws)
rendered_shown limit cas key x ws h = rendered_value limit cas key x ws h.marked h.key_bytes h.some_key h.short_key h.value_bytes h.short_value
