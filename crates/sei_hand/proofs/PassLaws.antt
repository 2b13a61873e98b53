-- What a pass over the hands' table asks of what it is given, and what it keeps.
use Rattle.std.proofs.Common.{◌≡◌, ℕ, ◌≤◌, List, length, Option, None, Some, ap, arith}
use Rattle.sei_code.specs.Coded.{read_of}
use Rattle.sei_code.specs.declared.coded.Coded.{Coded}
use Rattle.mc_model.specs.declared.geometry.Geometry.{Geometry}
use Rattle.mc_model.specs.Server.{IsValid}
use Rattle.sei_words.specs.LentBucket.{Place, place_of}
use Rattle.sei_words.specs.Words.{BucketWords}
use Rattle.sei_stmt.specs.Handling.{parsed_words}
use Rattle.sei_pass.specs.Setting.{sealed_call, call_at}
use Rattle.sei_pass.specs.Spaces.{input_room}
use Rattle.sei_hand.specs.Requests.{parsed_call}
use Rattle.sei_hand.proofs.ReadLaws.{words_fit}

-- the input words of a sealed call have room
pub sealed_words_fit : (g : Geometry) (text : List ℕ) (nth : Coded) → IsValid g → length (parsed_words (sealed_call (parsed_call g text) nth)) ≤ input_room g
sealed_words_fit g text nth valid = by_number (read_of nth)
  where
    by_number : (o : Option ℕ) → length (parsed_words (call_at (parsed_call g text) o)) ≤ input_room g
    by_number None = omega arith
    by_number (Some n) = words_fit g text n (input_room g) valid.some_buckets (omega arith)

-- words of one place have one geometry
pub one_geometry : (a b : BucketWords) → place_of (Some a) ≡ place_of (Some b) → a.geometry ≡ b.geometry
one_geometry a b e =
    let back : Option Place → Geometry = λ o. elim o [ None ↦ a.geometry | Some x ↦ x.geometry ] in
    ap back e
