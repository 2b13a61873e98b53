-- What an escaped text stands for.
use Rattle.std.specs.Prelude.{◌≡◌, ◌≢◌, ℕ, ◌+◌, ◌*◌, List, [], ◌∷◌, Some}
use Rattle.sei_script.specs.Escapes.{hex_value}

-- no text for no bytes; a byte other than a backslash for itself; \r, \n and \\ for CR, LF and a backslash; \xHH for the byte of two digits
pub data Unescapes : List ℕ → List ℕ → Type 0 where
  Empty : {text bytes : List ℕ} → text ≡ [] → bytes ≡ [] → Unescapes text bytes
  Itself : {text bytes : List ℕ} (rest more : List ℕ) (b : ℕ) → b ≢ 92 → text ≡ b ∷ rest → bytes ≡ b ∷ more → Unescapes rest more → Unescapes text bytes
  CarriageReturn : {text bytes : List ℕ} (rest more : List ℕ) → text ≡ 92 ∷ 114 ∷ rest → bytes ≡ 13 ∷ more → Unescapes rest more → Unescapes text bytes
  LineFeed : {text bytes : List ℕ} (rest more : List ℕ) → text ≡ 92 ∷ 110 ∷ rest → bytes ≡ 10 ∷ more → Unescapes rest more → Unescapes text bytes
  Backslash : {text bytes : List ℕ} (rest more : List ℕ) → text ≡ 92 ∷ 92 ∷ rest → bytes ≡ 92 ∷ more → Unescapes rest more → Unescapes text bytes
  Hexadecimal : {text bytes : List ℕ} (rest more : List ℕ) (h l high low : ℕ) → hex_value h ≡ Some high → hex_value l ≡ Some low
      → text ≡ 92 ∷ 120 ∷ h ∷ l ∷ rest → bytes ≡ (16 * high + low) ∷ more → Unescapes rest more → Unescapes text bytes
