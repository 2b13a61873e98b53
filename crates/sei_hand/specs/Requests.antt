-- The calls of an input that is one whole request.
use Rattle.std.specs.Prelude.{ℕ, ◌*◌, ◌==◌, List, length, slice_get, Option, Some, None, if◌then◌else◌}
use Rattle.std.specs.Option.{option_map, option_and_then}
use Rattle.mc_model.specs.declared.geometry.Geometry.{Geometry}
use Rattle.mc_model.specs.declared.call.Verb.TheVariants.{Fixed}
use Rattle.mc_model.specs.Call.{Call, Placed, blank}
use Rattle.mc_text.specs.declared.limits.Limits.{Limits}
use Rattle.mc_text.specs.Meaning.{Meaning, calls_of}
use Rattle.mc_text.specs.Front.{front}
use Rattle.sei_stmt.specs.Handling.{Parsed}
use Rattle.sei_hand.specs.InputWords.{input_words}

-- what a request may ask for
abbrev pub limits_of : Geometry → Limits
limits_of g = record { buckets = g.buckets; value_bytes = 8 * g.value_words }

-- the request at the front, if it takes all the bytes
abbrev pub if_whole : List ℕ → Option (ℕ × Meaning) → Option Meaning
if_whole bytes None = None
if_whole bytes (Some p) = if p.0 == length bytes then Some p.1 else None

-- the request that the bytes spell
unfoldable pub request_of : Limits → List ℕ → Option Meaning
request_of l bytes = if_whole bytes (front l bytes)

-- its calls
abbrev pub calls_in : Limits → List ℕ → Option (List Placed)
calls_in l bytes = option_map (calls_of l.buckets) (request_of l bytes)

-- the one with this number, from 0
abbrev pub call_in : Limits → List ℕ → ℕ → Option Placed
call_in l bytes nth = option_and_then (λ calls. slice_get calls nth) (calls_in l bytes)

-- a call if there is one, else the blank call
abbrev pub call_or_blank : Option Placed → Call
call_or_blank None = blank Fixed
call_or_blank (Some p) = p.call

abbrev pub count_of_calls : Geometry → List ℕ → Option ℕ
count_of_calls g bytes = option_map length (calls_in (limits_of g) bytes)

-- what a pass is given of a call
abbrev pub parsed_of : Geometry → Placed → Parsed
parsed_of g p = record { bucket = p.bucket; words = input_words g p.call }

abbrev pub parsed_call : Geometry → List ℕ → ℕ → Option Parsed
parsed_call g bytes nth = option_map (parsed_of g) (call_in (limits_of g) bytes nth)
