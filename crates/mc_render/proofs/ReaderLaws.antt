-- How words are read as outputs.
use Rattle.std.proofs.Common.{◌≡◌, ℕ, ◌-◌, ◌≤◌, ◌==◌, List, [], ◌∷◌, length, take, drop, Some, refl, sym, arith, le-leb}
use Rattle.std.specs.Prelude.{slice_index}
use Rattle.std.proofs.lemmas.List.{take_all}
use Rattle.mc_render.specs.Shown.{shown}
use Rattle.mc_render.specs.Outputs.{first_bytes, first_value}
use Rattle.mc_render.specs.declared.output.Output.TheVariants.{Value}

-- a value of its form
pub value_read : (limit : ℕ) (ws k v r s : List ℕ) → 5 ≤ length ws →
    slice_index ws 0 ≤ 1 → 1 ≤ slice_index ws 1 → slice_index ws 1 ≤ 250 → slice_index ws 3 ≤ limit →
    Some (k, r) ≡ first_bytes (slice_index ws 1) (take (length ws - 5) (drop 5 ws)) →
    Some (v, s) ≡ first_bytes (slice_index ws 3) r →
    Some (Value (shown (slice_index ws 0 == 1) k (slice_index ws 2) (slice_index ws 4) v), s) ≡ first_value limit ws
value_read limit (a ∷ n ∷ f ∷ m ∷ u ∷ ws) k v r s h ha hn hm hv ek ev =
    let all : take (length (a ∷ n ∷ f ∷ m ∷ u ∷ ws) - 5) ws ≡ ws = take_all _ ws (omega arith) in
    rw (le-leb a 1 ha, le-leb 1 n hn, le-leb n 250 hm, le-leb m limit hv, sym (rw all at ek), sym ev) refl
value_read limit [] k v r s h ha hn hm hv ek ev = absurd (omega (arith, h))
value_read limit (a ∷ []) k v r s h ha hn hm hv ek ev = absurd (omega (arith, h))
value_read limit (a ∷ n ∷ []) k v r s h ha hn hm hv ek ev = absurd (omega (arith, h))
value_read limit (a ∷ n ∷ f ∷ []) k v r s h ha hn hm hv ek ev = absurd (omega (arith, h))
value_read limit (a ∷ n ∷ f ∷ m ∷ []) k v r s h ha hn hm hv ek ev = absurd (omega (arith, h))
