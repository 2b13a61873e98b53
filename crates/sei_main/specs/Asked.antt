-- Which call a server is asked.
use Rattle.std.specs.Prelude.{◌≡◌, ℕ, ◌<◌, List, Some, slice_get}
use Rattle.mc_model.specs.Call.{Placed}
use Rattle.mc_text.specs.declared.limits.Limits.{Limits}
use Rattle.mc_text.specs.Meaning.{Meaning, calls_of}
use Rattle.mc_text.specs.Spells.{Spells}

-- the call with this number, from 0, of the request that a text spells
pub record IsCallAt (limits : Limits) (text : List ℕ) (nth : ℕ) (placed : Placed) : Type 0 where
  pub some_buckets : 0 < limits.buckets
  pub meaning : Meaning
  pub spelled : Spells limits text meaning
  pub call : slice_get (calls_of limits.buckets meaning) nth ≡ Some placed
