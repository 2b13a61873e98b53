-- An item of the cache as a reply shows it.
use Rattle.std.specs.Prelude.{ℕ, Bool, List}
use Rattle.mc_model.specs.Bucket.{Item}

pub record Shown : Type 0 where
  pub with_unique : Bool
  pub key : List ℕ
  pub item : Item

-- a reply does not show the expiry
abbrev pub shown : Bool → List ℕ → ℕ → ℕ → List ℕ → Shown
shown with_unique key flags unique value = record {
  with_unique = with_unique;
  key = key;
  item = record { flags = flags; expiry = 0; unique = unique; value = value };
}
