-- The requests of a stream, and the calls of a connection.
use Rattle.std.specs.Prelude.{◌≡◌, ℕ, zero, suc, false, List, [], ◌∷◌, ◌++◌, ⊤, Option, Some, None, length, drop, if◌then◌else◌}
use Rattle.std.specs.List.{flat_map}
use Rattle.mc_model.specs.Call.{Placed}
use Rattle.mc_text.specs.declared.limits.Limits.{Limits}
use Rattle.mc_text.specs.Meaning.{Meaning, calls_of, ends_connection}
use Rattle.mc_text.specs.Spells.{Spells, Begins}
use Rattle.mc_text.specs.Front.{front}

-- no request begins the bytes
abbrev pub NoneBegins : Limits → List ℕ → Type 0
NoneBegins l bytes = (k : ℕ) (m : Meaning) → Begins l bytes k m → ⊥

-- the bytes are texts of these requests, one after the other, and then rest
abbrev pub Takes : Limits → List ℕ → List Meaning → List ℕ → Type 0
Takes l bytes [] rest = bytes ≡ rest
Takes l bytes (m ∷ ms) rest = (text : List ℕ) × (more : List ℕ) × Spells l text m × (bytes ≡ text ++ more) × Takes l more ms rest

-- and the rest is less than a whole request
abbrev pub Splits : Limits → List ℕ → List Meaning → List ℕ → Type 0
Splits l bytes ms rest = Takes l bytes ms rest × NoneBegins l rest

abbrev pub with_front : List ℕ → Option (ℕ × Meaning) → (ℕ → List Meaning × List ℕ) → List Meaning × List ℕ
with_front bytes None later = ([], bytes)
with_front bytes (Some p) later = (p.1 ∷ (later p.0).0, (later p.0).1)

-- the split as a function, of at most n requests
abbrev pub split_in : Limits → ℕ → List ℕ → List Meaning × List ℕ
split_in l zero bytes = ([], bytes)
split_in l (suc n) bytes = with_front bytes (front l bytes) (λ k. split_in l n (drop k bytes))

-- the requests that begin the bytes
unfoldable pub requests : Limits → List ℕ → List Meaning
requests l bytes = (split_in l (length bytes) bytes).0

-- the bytes after them
unfoldable pub rest_of : Limits → List ℕ → List ℕ
rest_of l bytes = (split_in l (length bytes) bytes).1

-- up to the first request that ends the connection, and with it
abbrev pub up_to_end : List Meaning → List Meaning
up_to_end [] = []
up_to_end (m ∷ ms) = m ∷ (if ends_connection m then [] else up_to_end ms)

-- none of them ends the connection
abbrev pub StaysOpen : List Meaning → Type 0
StaysOpen [] = ⊤
StaysOpen (m ∷ ms) = (ends_connection m ≡ false) × StaysOpen ms

-- the requests of a connection that got these bytes
abbrev pub own_requests : Limits → List ℕ → List Meaning
own_requests l bytes = up_to_end (requests l bytes)

-- and their calls
abbrev pub own_calls : Limits → List ℕ → List Placed
own_calls l bytes = flat_map (calls_of l.buckets) (own_requests l bytes)

abbrev pub IsPrefixOf : {A : Type 0} → List A → List A → Type 0
IsPrefixOf {A} xs ys = (rest : List A) × (ys ≡ xs ++ rest)
