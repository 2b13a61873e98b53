-- What the reader answers, as the definitions say it.
use Rattle.std.proofs.Common.{◌≡◌, ℕ, ◌≤◌, List, length, ap, ◌∙◌, refl, sym, Option, Some, None, arith}
use Rattle.std.specs.Prelude.{slice_get, IfSome}
use Rattle.std.specs.Option.{option_map, option_and_then}
use Rattle.mc_model.specs.declared.geometry.Geometry.{Geometry}
use Rattle.mc_model.specs.declared.call.CallSpan.{CallSpan}
use Rattle.mc_model.specs.Call.{Placed}
use Rattle.mc_model.specs.Views.{placed_of}
use Rattle.mc_text.specs.declared.limits.Limits.{Limits}
use Rattle.mc_text.specs.declared.request.Request.{Request}
use Rattle.mc_text.specs.Meaning.{Meaning, calls_of}
use Rattle.mc_text.specs.Reading.{meaning_at, calls_at, IsReading}
use Rattle.mc_text.specs.Spells.{Spells}
use Rattle.sei_stmt.specs.Handling.{Parsed, parsed_words}
use Rattle.sei_hand.specs.InputWords.{input_words}
use Rattle.sei_pass.specs.Spaces.{input_room}
use Rattle.sei_hand.specs.Requests.{limits_of, calls_in, call_in, parsed_of, parsed_call}
use Rattle.sei_hand.specs.ReadCall.{IsReadCall, ComesFrom}
use Rattle.sei_hand.proofs.InputLaws.{length_input_words}
use Rattle.sei_hand.proofs.RequestLaws.{request_spelled, request_none, found_call}

-- the calls of a request that was read
pub read_calls : (l : Limits) (bytes : List ℕ) (r : Request) → IsReading l bytes r → calls_in l bytes ≡ Some (calls_at bytes r)
read_calls l bytes r is = ap (option_map (calls_of l.buckets)) (request_spelled l bytes (meaning_at bytes r) is.spelled) ∙ ap Some (sym is.calls)

pub no_calls : (l : Limits) (bytes : List ℕ) → ((m : Meaning) → Spells l bytes m → ⊥) → calls_in l bytes ≡ None
no_calls l bytes none = ap (option_map (calls_of l.buckets)) (request_none l bytes none)

pub read_call : (l : Limits) (bytes : List ℕ) (r : Request) (nth : ℕ) (o : Option Placed) → IsReading l bytes r → o ≡ slice_get (calls_at bytes r) nth → o ≡ call_in l bytes nth
read_call l bytes r nth o is e = e ∙ sym (ap (option_and_then (λ calls. slice_get calls nth)) (read_calls l bytes r is))

-- what holds of each call that is found
pub call_is_read : (g : Geometry) (bytes : List ℕ) (nth : ℕ) (o : Option CallSpan) → 1 ≤ g.buckets → option_map (placed_of bytes) o ≡ call_in (limits_of g) bytes nth → IfSome o (λ c. IsReadCall g (placed_of bytes c))
call_is_read g bytes nth None some e = tt
call_is_read g bytes nth (Some c) some e = found_call g bytes nth (placed_of bytes c) some (sym e)

pub no_call : (l : Limits) (bytes : List ℕ) (nth : ℕ) → ((m : Meaning) → Spells l bytes m → ⊥) → None ≡ call_in l bytes nth
no_call l bytes nth none = sym (ap (option_and_then (λ calls. slice_get calls nth)) (no_calls l bytes none))

-- how many there are
pub read_count : (l : Limits) (bytes : List ℕ) (r : Request) (n : ℕ) → IsReading l bytes r → n ≡ length (calls_at bytes r) → Some n ≡ option_map length (calls_in l bytes)
read_count l bytes r n is e = ap Some e ∙ sym (ap (option_map length) (read_calls l bytes r is))

pub no_count : (l : Limits) (bytes : List ℕ) → ((m : Meaning) → Spells l bytes m → ⊥) → None ≡ option_map length (calls_in l bytes)
no_count l bytes none = sym (ap (option_map length) (no_calls l bytes none))

-- the room that its words need
pub room_needed : (g : Geometry) (bytes : List ℕ) (nth room : ℕ) (p : Placed) → Some p ≡ call_in (limits_of g) bytes nth → IsReadCall g p → length (parsed_words (parsed_call g bytes nth)) ≤ room → input_room g ≤ room
room_needed g bytes nth room p found read needs =
    let same : length (input_words g p.call) ≡ length (parsed_words (parsed_call g bytes nth)) = ap (λ o. length (parsed_words (option_map (parsed_of g) o))) found in
    omega (arith, same, length_input_words g p.call read.key read.block)

pub comes_from : (g : Geometry) (bytes : List ℕ) (nth : ℕ) (x : Parsed) → 1 ≤ g.buckets → parsed_call g bytes nth ≡ Some x → ComesFrom g bytes nth x
comes_from g bytes nth x some e = by_call (call_in (limits_of g) bytes nth) refl e
  where
    made : (p : Placed) → Some (parsed_of g p) ≡ Some x → x ≡ parsed_of g p
    made p f = cc

    by_call : (o : Option Placed) → call_in (limits_of g) bytes nth ≡ o → option_map (parsed_of g) o ≡ Some x → ComesFrom g bytes nth x
    by_call None q f = cc
    by_call (Some p) q f =
        let read = found_call g bytes nth p some q in
        let same : x ≡ parsed_of g p = made p f in
        record { placed = p; found = q; same = same; read = read; room = ap (λ (y : Parsed). length y.words) same ∙ length_input_words g p.call read.key read.block }

-- room for the words of every call
pub words_fit : (g : Geometry) (bytes : List ℕ) (nth room : ℕ) → 1 ≤ g.buckets → input_room g ≤ room → length (parsed_words (parsed_call g bytes nth)) ≤ room
words_fit g bytes nth room some enough = by_call (parsed_call g bytes nth) refl
  where
    by_call : (o : Option Parsed) → parsed_call g bytes nth ≡ o → length (parsed_words o) ≤ room
    by_call None e = omega arith
    by_call (Some x) e = omega (arith, (comes_from g bytes nth x some e).room)
