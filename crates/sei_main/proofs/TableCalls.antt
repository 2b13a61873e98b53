-- A call that the server of words is asked.
use Rattle.std.proofs.Common.{◌≡◌, ℕ, ◌<◌, ◌≤◌, List, length, true, Option, None, Some, refl, sym, ap, ◌∙◌, subst, arith}
use Rattle.std.specs.Prelude.{slice_index, slice_get}
use Rattle.std.specs.Option.{option_map, option_and_then}
use Rattle.std.proofs.lemmas.Bool.{eq-eqb}
use Rattle.std.proofs.lemmas.Option.{slice_get_within}
use Rattle.std.proofs.lemmas.List.Elements.{All-from_get_or}
use Rattle.sei_code.specs.Coded.{sealed as seal, read_of, complement}
use Rattle.sei_code.specs.declared.coded.Coded.{Coded}
use Rattle.mc_model.specs.declared.geometry.Geometry.{Geometry}
use Rattle.mc_model.specs.Call.{Placed}
use Rattle.mc_model.specs.Packed.{AreBytes}
use Rattle.mc_model.specs.Server.{IsValid}
use Rattle.mc_text.specs.Meaning.{calls_of}
use Rattle.sei_pass.specs.Setting.{sealed_call, call_at}
use Rattle.sei_hand.specs.Requests.{calls_in, call_in, count_of_calls, parsed_of, parsed_call}
use Rattle.sei_hand.proofs.PublicHands.{found_bytes}
use Rattle.sei_hand.proofs.PublicHands.{request_spelled, found_call}
use Rattle.sei_main.specs.Asked.{IsCallAt}
use Rattle.sei_main.specs.State.{limits_of}
use Rattle.sei_traverse.specs.Given.{has_call}
use Rattle.sei_traverse.proofs.Public.{below}
use Rattle.sei_main.proofs.TableLaws.{IsGood}
use Rattle.sei_pass.specs.Spaces.{input_room}
use Rattle.sei_stmt.specs.Handling.{Parsed, parsed_words}
use Rattle.sei_hand.specs.ReadCall.{IsReadCall}
use Rattle.sei_hand.proofs.PublicHands.{length_input_words}

-- the call is there, and is a good one
pub record AskedOf (g : Geometry) (text : List ℕ) (nth : ℕ) (p : Placed) : Type 0 where
  pub good : IsGood g p
  pub call : call_in (limits_of g) text nth ≡ Some p

pub bytes_of : (text : List ℕ) → ((i : ℕ) → slice_index text i < 256) → AreBytes text
bytes_of text h = All-from_get_or (λ b. b < 256) text 0 (λ i lt. h i)

pub asked_of : (old g : Geometry) (text : List ℕ) (nth : ℕ) (p : Placed) → old ≡ g → IsValid g → AreBytes text → IsCallAt (limits_of old) text nth p → AskedOf g text nth p
asked_of old g text nth p e valid bytes asked =
    subst (λ (y : Geometry). IsCallAt (limits_of y) text nth p → AskedOf g text nth p) (sym e) here asked
  where
    here : IsCallAt (limits_of g) text nth p → AskedOf g text nth p
    here asked =
        let found : call_in (limits_of g) text nth ≡ Some p =
        ap (λ o. option_and_then (λ calls. slice_get calls nth) (option_map (calls_of g.buckets) o)) (request_spelled (limits_of g) text asked.meaning asked.spelled) ∙ asked.call in
        record {
          good = record { read = found_call g text nth p (omega (arith, valid.some_buckets)) found; bytes = found_bytes g text nth p bytes found };
          call = found;
        }

read_sealed : (v : ℕ) → read_of (seal v) ≡ Some v
read_sealed v = simp (eq-eqb (complement v) (complement v) refl)

pub sealed_is : (g : Geometry) (text : List ℕ) (nth : ℕ) (coded : Coded) (p : Placed) → coded ≡ seal nth → call_in (limits_of g) text nth ≡ Some p → sealed_call (parsed_call g text) coded ≡ Some (parsed_of g p)
sealed_is g text nth coded p e found =
    ap (λ (c : Coded). call_at (parsed_call g text) (read_of c)) e
    ∙ ap (call_at (parsed_call g text)) (read_sealed nth)
    ∙ ap (option_map (parsed_of g)) found

-- so the text has the call
pub has_it : (g : Geometry) (text : List ℕ) (nth : ℕ) (coded : Coded) (p : Placed) → coded ≡ seal nth → call_in (limits_of g) text nth ≡ Some p → has_call (count_of_calls g text) (read_of coded) ≡ true
has_it g text nth coded p e found =
    ap (λ (c : Coded). has_call (count_of_calls g text) (read_of c)) e
    ∙ ap (has_call (count_of_calls g text)) (read_sealed nth)
    ∙ by (calls_in (limits_of g) text) found
  where
    by : (calls : Option (List Placed)) → option_and_then (λ (cs : List Placed). slice_get cs nth) calls ≡ Some p → has_call (option_map length calls) (Some nth) ≡ true
    by None h = absurd cc
    by (Some calls) h = below nth (length calls) (slice_get_within calls nth p h)

-- the input words of the call go in
pub words_go_in : (g : Geometry) (p : Placed) (text : List ℕ) (nth : Coded) → sealed_call (parsed_call g text) nth ≡ Some (parsed_of g p) → IsReadCall g p →
    length (parsed_words (sealed_call (parsed_call g text) nth)) ≤ input_room g
words_go_in g p text nth call read = subst (λ (o : Option Parsed). length (parsed_words o) ≤ input_room g) (sym call) (omega (arith, length_input_words g p.call read.key read.block))
