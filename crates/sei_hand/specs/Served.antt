-- What the table does for which calls.
use Rattle.std.specs.Prelude.{ℕ, ◌≤◌, List, length}
use Rattle.mc_model.specs.declared.geometry.Geometry.{Geometry}
use Rattle.mc_model.specs.Answer.{answer}
use Rattle.mc_model.specs.Bucket.{Bucket}
use Rattle.mc_model.specs.Call.{Call}
use Rattle.mc_model.specs.Server.{room_of}
use Rattle.mc_text.specs.Commands.{IsReadVerb}
use Rattle.mc_text.specs.Fits.{HasKey}
use Rattle.sei_words.specs.Stands.{StandsFor}
use Rattle.sei_stmt.specs.Passes.{Space}
use Rattle.sei_pass.specs.Spaces.{space_of}
use Rattle.tab_find.specs.Answers.{IsBounded, IsAsked}
use Rattle.tab_find.specs.Calls.{IsCall}
use Rattle.sei_hand.specs.Requests.{limits_of, call_in, call_or_blank}

-- words that stand for a bucket whose numbers are of 64 bits
pub record Stands (g : Geometry) (words : List ℕ) (b : Bucket) : Type 0 where
  pub stands : StandsFor g words b
  pub bounded : IsBounded b

-- a call of a command that requests may ask for. One on a key has a key
pub record IsOffered (c : Call) : Type 0 where
  pub verb : IsReadVerb c.verb
  pub key : HasKey c.verb → 1 ≤ length c.key

-- these are the input words of a call that a request of the geometry asks
pub record Asks (g : Geometry) (input : List ℕ) (c : Call) : Type 0 where
  pub offered : IsOffered c
  pub asked : IsAsked g c
  pub call : IsCall input c

-- the answer to a call of an input, by its number, on a bucket at a time
abbrev pub answer_of : Geometry → List ℕ → ℕ → Bucket → ℕ → Bucket × List ℕ
answer_of g input nth b now = answer (room_of g) b now (call_or_blank (call_in (limits_of g) input nth))

-- the space of a call of an input, by its number: so far the same for all calls of a geometry
abbrev pub space_for : Geometry → List ℕ → ℕ → Space
space_for g input nth = space_of g
