-- An output leaves fewer words than there were.
use Rattle.std.proofs.Common.{ℕ, suc, ◌≤◌, ◌==◌, ◌&&◌, Bool, true, false, List, [], ◌∷◌, length, Option, Some, None, arith, length-drop}
use Rattle.std.specs.Prelude.{nat_le, nat_lt, if◌then◌else◌}
use Rattle.std.specs.Option.{option_map, option_and_then}
use Rattle.mc_model.specs.Packed.{words_for}
use Rattle.mc_render.specs.Outputs.{first_bytes, first_text, first_value, first_number, first_output}

-- what is left is at most n words
abbrev pub Leaves : {A : Type 0} → ℕ → Option (A × List ℕ) → Type 0
Leaves n None = Unit {0}
Leaves n (Some p) = length p.1 ≤ n

leaves_if : {A : Type 0} (n : ℕ) (b : Bool) (x y : Option (A × List ℕ)) → Leaves n x → Leaves n y → Leaves n (if b then x else y)
leaves_if n true x y h k = h
leaves_if n false x y h k = k

leaves_then : {A B : Type 0} (n : ℕ) (f : A × List ℕ → Option (B × List ℕ)) (x : Option (A × List ℕ)) → Leaves n x →
    ((p : A × List ℕ) → length p.1 ≤ n → Leaves n (f p)) → Leaves n (option_and_then f x)
leaves_then n f None h k = tt
leaves_then n f (Some p) h k = k p h

leaves_mapped : {A B : Type 0} (n m : ℕ) (f : A × List ℕ → B) (x : Option (A × List ℕ)) → m ≤ n → Leaves m x → Leaves n (option_map (λ p. (f p, p.1)) x)
leaves_mapped n m f None le h = tt
leaves_mapped n m f (Some p) le h = omega (arith, le, h)

bytes_leave : (n : ℕ) (ws : List ℕ) → Leaves (length ws) (first_bytes n ws)
bytes_leave n ws = leaves_if (length ws) (nat_le (words_for n) (length ws)) _ _ (omega (arith, length-drop (words_for n) ws)) tt

text_leaves : (ws : List ℕ) → Leaves (length ws) (first_text ws)
text_leaves [] = tt
text_leaves (n ∷ ws) = leaves_if (suc (length ws)) (nat_lt n 17) _ _ (omega arith) tt

number_leaves : (ws : List ℕ) → Leaves (length ws) (first_number ws)
number_leaves [] = tt
number_leaves (n ∷ ws) = omega arith

value_leaves : (limit : ℕ) (ws : List ℕ) → Leaves (length ws) (first_value limit ws)
value_leaves limit (a ∷ n ∷ f ∷ m ∷ u ∷ ws) =
    let big = suc (suc (suc (suc (suc (length ws))))) in
    leaves_if big (nat_le a 1 && nat_le 1 n && nat_le n 250 && nat_le m limit) _ _
    (leaves_then big _ (first_bytes n ws) (weaker (first_bytes n ws) (bytes_leave n ws)) (λ k h. leaves_mapped big (length k.1) _ (first_bytes m k.1) h (bytes_leave m k.1)))
    tt
  where
    weaker : (x : Option (List ℕ × List ℕ)) → Leaves (length ws) x → Leaves (suc (suc (suc (suc (suc (length ws)))))) x
    weaker None h = tt
    weaker (Some p) h = omega (arith, h)
value_leaves limit [] = tt
value_leaves limit (a ∷ []) = tt
value_leaves limit (a ∷ n ∷ []) = tt
value_leaves limit (a ∷ n ∷ f ∷ []) = tt
value_leaves limit (a ∷ n ∷ f ∷ m ∷ []) = tt

pub output_leaves : (limit w : ℕ) (ws : List ℕ) → Leaves (length ws) (first_output limit (w ∷ ws))
output_leaves limit w ws =
    leaves_if (length ws) (w == 0) _ _ (text_leaves ws)
    (leaves_if (length ws) (w == 1) _ _ (value_leaves limit ws)
    (leaves_if (length ws) (w == 2) _ _ (number_leaves ws) tt))
