-- The request that bytes spell, as a function and as a relation.
use Rattle.std.proofs.Common.{◌≡◌, ℕ, ◌≤◌, Bool, true, false, cond, List, length, refl, sym, ap, ◌∙◌, subst, arith, Option, Some, None, inl, inr, lit≤}
use Rattle.std.specs.Prelude.{◌==◌, ◌&&◌, nat_lt, nat_le, slice_get, All}
use Rattle.std.specs.List.{list_all}
use Rattle.std.proofs.lemmas.Option.{slice_get_cases}
use Rattle.std.specs.Option.{option_map, option_and_then}
use Rattle.std.proofs.lemmas.List.{take_all}
use Rattle.std.proofs.lemmas.Bool.Decides.{nat_tests}
use Rattle.mc_model.specs.declared.geometry.Geometry.{Geometry}
use Rattle.mc_model.specs.Call.{Placed}
use Rattle.mc_model.specs.Packed.{AreBytes}
use Rattle.mc_text.specs.Bounds.{longest_key}
use Rattle.mc_text.specs.declared.limits.Limits.{Limits}
use Rattle.mc_text.specs.Fields.{is_key, is_key_byte}
use Rattle.mc_text.specs.Meaning.{Meaning, calls_of}
use Rattle.mc_text.specs.Front.{front}
use Rattle.mc_text.specs.Fits.{IsFit, HasBytes}
use Rattle.mc_text.specs.Spells.{Spells, Begins}
use Rattle.mc_text.proofs.PublicRequests.{begins_front, spells_whole}
use Rattle.mc_text.proofs.PublicCalls.{calls_fit, calls_hold_bytes}
use Rattle.mc_text.proofs.PublicCommands.{read_has_key}
use Rattle.sei_hand.specs.Requests.{limits_of, if_whole, request_of, call_in}
use Rattle.sei_hand.specs.ReadCall.{IsReadCall}

same_test : (n : ℕ) → (n == n) ≡ true
same_test n = grind (arith, nat_tests)

test_same : (m n : ℕ) → (m == n) ≡ true → m ≡ n
test_same m n e = grind (arith, nat_tests)

-- what is spelled is found
pub request_spelled : (l : Limits) (bytes : List ℕ) (m : Meaning) → Spells l bytes m → request_of l bytes ≡ Some m
unfolding request_of
request_spelled l bytes m s =
    let begins : Begins l bytes (length bytes) m = record { within = omega arith; spelled = subst (λ x. Spells l x m) (sym (take_all (length bytes) bytes (omega arith))) s } in
    ap (if_whole bytes) (begins_front l bytes (length bytes) m begins) ∙ ap (λ (b : Bool). cond b (Some m) None) (same_test (length bytes))

-- what is found is spelled
pub request_spells : (l : Limits) (bytes : List ℕ) (m : Meaning) → request_of l bytes ≡ Some m → Spells l bytes m
unfolding request_of
request_spells l bytes m e = by_front (front l bytes) refl e
  where
    by_test : (t : Bool) (n : ℕ) (r : Meaning) → front l bytes ≡ Some (n, r) → (n == length bytes) ≡ t → cond t (Some r) None ≡ Some m → Spells l bytes m
    by_test true n r f t g = let same : r ≡ m = cc in subst (Spells l bytes) same (spells_whole l bytes n r (sym f) (test_same n (length bytes) t))
    by_test false n r f t g = cc

    by_front : (o : Option (ℕ × Meaning)) → front l bytes ≡ o → if_whole bytes o ≡ Some m → Spells l bytes m
    by_front None f g = cc
    by_front (Some p) f g = by_test (p.0 == length bytes) p.0 p.1 f refl g

-- where none is spelled none is found
pub request_none : (l : Limits) (bytes : List ℕ) → ((m : Meaning) → Spells l bytes m → ⊥) → request_of l bytes ≡ None
request_none l bytes none = by_request (request_of l bytes) refl
  where
    by_request : (o : Option Meaning) → request_of l bytes ≡ o → request_of l bytes ≡ None
    by_request None e = e
    by_request (Some m) e = absurd (none m (request_spells l bytes m e))

-- what holds of each call holds of the one at nth
pub all_at : {A : Type 0} (P : A → Type 0) (xs : List A) (n : ℕ) (x : A) → All P xs → slice_get xs n ≡ Some x → P x
all_at {A = A} P xs n x h e = elim (slice_get_cases xs n).1 [
  | inl found ↦ let same : found.0 ≡ x = some_same found.0 x (sym found.2 ∙ e) in subst P (found.3 ∙ same) (h n found.0 found.1)
  | inr past ↦ cc
]
  where
    some_same : (y z : A) → Some y ≡ Some z → y ≡ z
    some_same y z q = cc

-- a key has a byte at least, and 250 at most
key_lengths : (w : List ℕ) → is_key w ≡ true → (1 ≤ length w) × (length w ≤ 250)
key_lengths w e = by_tests (nat_lt 0 (length w)) (nat_le (length w) 250) (list_all is_key_byte w) refl refl e
  where
    some : nat_lt 0 (length w) ≡ true → 1 ≤ length w
    some t = grind (arith, nat_tests)

    few : nat_le (length w) 250 ≡ true → length w ≤ 250
    few t = grind (arith, nat_tests)

    by_tests : (a b d : Bool) → nat_lt 0 (length w) ≡ a → nat_le (length w) 250 ≡ b → (a && b && d) ≡ true → (1 ≤ length w) × (length w ≤ 250)
    by_tests true true d s t f = (some s, few t)
    by_tests true false d s t f = cc
    by_tests false b d s t f = cc

-- a call has a key with its form, or it is a text without one
key_within : (l : Limits) (p : Placed) → IsFit l p → length p.call.key ≤ longest_key
key_within l p f = elim (read_has_key p.call.verb f.fields.verb) [
  | inl keyed ↦ (key_lengths p.call.key (f.key keyed)).1
  | inr text ↦ rw (f.no_key text) (lit≤ tt)
]

fit_is_read : (g : Geometry) (p : Placed) → IsFit (limits_of g) p → IsReadCall g p
fit_is_read g p f = record {
  placed = f.placed;
  bucket = f.bucket;
  fields = f.fields;
  some_key = λ k. (key_lengths p.call.key (f.key k)).0;
  key = key_within (limits_of g) p f;
  block = f.block;
  no_key = f.no_key;
  no_block = f.no_block;
  text = f.text;
}

-- what holds of each call of a request that is spelled holds of each that is found
found_is : (P : Placed → Type 0) (g : Geometry) (bytes : List ℕ) (nth : ℕ) (p : Placed) → ((m : Meaning) → Spells (limits_of g) bytes m → All P (calls_of g.buckets m)) → call_in (limits_of g) bytes nth ≡ Some p → P p
found_is P g bytes nth p each e = by_request (request_of (limits_of g) bytes) refl e
  where
    by_request : (o : Option Meaning) → request_of (limits_of g) bytes ≡ o → option_and_then (λ calls. slice_get calls nth) (option_map (calls_of g.buckets) o) ≡ Some p → P p
    by_request None q f = cc
    by_request (Some m) q f = all_at P (calls_of g.buckets m) nth p (each m (request_spells (limits_of g) bytes m q)) f

-- each call that is found
pub found_call : (g : Geometry) (bytes : List ℕ) (nth : ℕ) (p : Placed) → 1 ≤ g.buckets → call_in (limits_of g) bytes nth ≡ Some p → IsReadCall g p
found_call g bytes nth p some e = fit_is_read g p (found_is (IsFit (limits_of g)) g bytes nth p (λ m s. calls_fit (limits_of g) bytes m some s) e)

-- each call that is found in bytes
pub found_bytes : (g : Geometry) (bytes : List ℕ) (nth : ℕ) (p : Placed) → AreBytes bytes → call_in (limits_of g) bytes nth ≡ Some p → HasBytes p
found_bytes g bytes nth p h e = found_is HasBytes g bytes nth p (λ m s. calls_hold_bytes (limits_of g) bytes m h s) e
