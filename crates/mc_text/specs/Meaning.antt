-- What a request asks for, and its calls.
use Rattle.std.specs.Prelude.{ℕ, zero, suc, ◌+◌, Bool, true, false, ◌==◌, List, [], ◌∷◌, length}
use Rattle.mc_model.specs.Call.{Call, Placed, bucket_of_key}

-- nothing, since it ends the connection; one call without a key, which closes the connection or does not; a call at
-- each of the keys; a call at each bucket
pub data Meaning : Type 0 where
  Quit : Meaning
  One : (call : Call) (closing : Bool) → Meaning
  Each : (call : Call) (keys : List (List ℕ)) → Meaning
  Everywhere : (call : Call) → Meaning

-- one call for each key, in order; the last one has the last mark
abbrev pub key_calls : ℕ → Call → List (List ℕ) → List Placed
key_calls buckets c [] = []
key_calls buckets c (k ∷ ks) = record { bucket = bucket_of_key buckets k; call = record c { key = k; last = length ks == 0 } } ∷ key_calls buckets c ks

-- one call for each of n buckets from one on
abbrev pub bucket_calls : Call → ℕ → ℕ → List Placed
bucket_calls c b zero = []
bucket_calls c b (suc n) = record { bucket = b; call = record c { last = n == 0 } } ∷ bucket_calls c (b + 1) n

-- the calls of a request, for n buckets
unfoldable pub calls_of : ℕ → Meaning → List Placed
calls_of buckets Quit = []
calls_of buckets (One c closing) = record { bucket = 0; call = c } ∷ []
calls_of buckets (Each c keys) = key_calls buckets c keys
calls_of buckets (Everywhere c) = bucket_calls c 0 buckets

-- a refusal after which the connection is closed
abbrev pub is_closing : Meaning → Bool
is_closing Quit = false
is_closing (One c closing) = closing
is_closing (Each c keys) = false
is_closing (Everywhere c) = false

-- no request after it is read
abbrev pub ends_connection : Meaning → Bool
ends_connection Quit = true
ends_connection (One c closing) = closing
ends_connection (Each c keys) = false
ends_connection (Everywhere c) = false
