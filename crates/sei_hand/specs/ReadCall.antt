-- What holds of each call that is read from a request.
use Rattle.std.specs.Prelude.{◌≡◌, ℕ, ◌*◌, ◌<◌, ◌≤◌, List, [], length, Some}
use Rattle.mc_model.specs.declared.geometry.Geometry.{Geometry}
use Rattle.mc_model.specs.Call.{Placed, IsPlaced}
use Rattle.mc_model.specs.Texts.{text_count}
use Rattle.mc_text.specs.Fits.{HasKey, HasNoKey, HasReadFields}
use Rattle.mc_text.specs.Bounds.{longest_key}
use Rattle.sei_stmt.specs.Handling.{Parsed}
use Rattle.sei_pass.specs.Spaces.{input_room}
use Rattle.sei_hand.specs.Requests.{limits_of, call_in, parsed_of}

-- a call on no key has neither key nor block
pub record IsReadCall (g : Geometry) (p : Placed) : Type 0 where
  pub placed : IsPlaced g.buckets p
  pub bucket : p.bucket < g.buckets
  pub fields : HasReadFields p.call
  pub some_key : HasKey p.call.verb → 1 ≤ length p.call.key
  pub key : length p.call.key ≤ longest_key
  pub block : length p.call.block ≤ 8 * g.value_words
  pub no_key : HasNoKey p.call.verb → p.call.key ≡ []
  pub no_block : HasNoKey p.call.verb → p.call.block ≡ []
  pub text : p.call.text < text_count

-- the input words are those of a call that was read
pub record ComesFrom (g : Geometry) (bytes : List ℕ) (nth : ℕ) (x : Parsed) : Type 0 where
  pub placed : Placed
  pub found : call_in (limits_of g) bytes nth ≡ Some placed
  pub same : x ≡ parsed_of g placed
  pub read : IsReadCall g placed
  pub room : length x.words ≡ input_room g
