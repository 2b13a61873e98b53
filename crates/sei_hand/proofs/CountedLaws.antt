-- The calls of an input are those below their number.
use Rattle.std.proofs.Common.{◌≡◌, ℕ, zero, suc, ◌<◌, ◌≤◌, List, [], ◌∷◌, length, Option, Some, None, refl, ap, sym, subst, arith}
use Rattle.std.specs.Prelude.{slice_get}
use Rattle.std.specs.Option.{option_map, option_and_then}
use Rattle.std.proofs.lemmas.Option.{slice_get_within}
use Rattle.mc_model.specs.declared.geometry.Geometry.{Geometry}
use Rattle.mc_model.specs.Call.{Placed}
use Rattle.sei_stmt.specs.declared.stmt.Stmt.TheVariants.{Parse}
use Rattle.sei_stmt.specs.Handling.{Parsed}
use Rattle.sei_hand.specs.Commands.{hands_table}
use Rattle.sei_hand.specs.Requests.{limits_of, calls_in, parsed_of, parsed_call, count_of_calls}
use Rattle.sei_hand.proofs.ReadLaws.{comes_from}

-- the number of a call below the length
there : (calls : List Placed) (nth : ℕ) → nth < length calls → (p : Placed) × (slice_get calls nth ≡ Some p)
there [] nth lt = absurd (omega (arith, lt))
there (p ∷ rest) zero lt = (p, refl)
there (p ∷ rest) (suc nth) lt = there rest nth (omega (arith, lt))

counted_in : (g : Geometry) (o : Option (List Placed)) (nth count : ℕ) → option_map length o ≡ Some count → nth < count →
    (p : Parsed) × (option_map (parsed_of g) (option_and_then (λ calls. slice_get calls nth) o) ≡ Some p)
counted_in g None nth count e lt = absurd cc
counted_in g (Some calls) nth count e lt =
    let same : length calls ≡ count = cc in
    let p = there calls nth (omega (arith, same, lt)) in
    (parsed_of g p.0, ap (option_map (parsed_of g)) p.1)

found_at : (g : Geometry) (o : Option Placed) (p : Parsed) → option_map (parsed_of g) o ≡ Some p → (q : Placed) × (o ≡ Some q)
found_at g None p e = absurd cc
found_at g (Some q) p e = (q, refl)

found_in : (g : Geometry) (o : Option (List Placed)) (nth : ℕ) (p : Parsed) → option_map (parsed_of g) (option_and_then (λ calls. slice_get calls nth) o) ≡ Some p →
    (count : ℕ) × (option_map length o ≡ Some count) × (nth < count)
found_in g None nth p e = absurd cc
found_in g (Some calls) nth p e = let q = found_at g (slice_get calls nth) p e in (length calls, refl, slice_get_within calls nth q.0 q.1)

-- each number below that of the calls has a call
pub counted : (g : Geometry) (bytes : List ℕ) (nth count : ℕ) → count_of_calls g bytes ≡ Some count → nth < count → (p : Parsed) × (parsed_call g bytes nth ≡ Some p)
counted g bytes nth count e lt = counted_in g (calls_in (limits_of g) bytes) nth count e lt

-- and no other number
pub found : (g : Geometry) (bytes : List ℕ) (nth : ℕ) (p : Parsed) → parsed_call g bytes nth ≡ Some p → (count : ℕ) × (count_of_calls g bytes ≡ Some count) × (nth < count)
found g bytes nth p e = found_in g (calls_in (limits_of g) bytes) nth p e

-- each call is for a bucket of the geometry
pub buckets : (g : Geometry) (bytes : List ℕ) (nth : ℕ) (p : Parsed) → 1 ≤ g.buckets → parsed_call g bytes nth ≡ Some p → p.bucket < g.buckets
buckets g bytes nth p some e =
    let from = comes_from g bytes nth p some e in
    subst (λ (b : ℕ). b < g.buckets) (sym (ap (λ (x : Parsed). x.bucket) from.same)) from.read.bucket

-- the table parses first
pub parses : (g : Geometry) → slice_get (hands_table g) 0 ≡ Some Parse
unfolding hands_table
parses g = refl
