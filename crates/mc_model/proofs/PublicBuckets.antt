-- What holds of each bucket stays so at each change, and what a key has after it.
use Rattle.std.proofs.Common.{◌≡◌, ◌≢◌, ◌⊎◌, inl, inr, ℕ, true, false, List, [], refl}
use Rattle.std.specs.Str.{bytes_eq}
use Rattle.mc_model.specs.declared.call.Room.{Room}
use Rattle.mc_model.specs.declared.outcome.Change.{Change}
use Rattle.mc_model.specs.Bucket.{Item, Bucket, IsBucket, empty_bucket, put, without, purged}
use Rattle.mc_model.specs.Call.{Call}
use Rattle.mc_model.specs.Answer.{answer, bucket_after}
use Rattle.mc_model.proofs.MapLaws.{IsMap-put, IsMap-without, IsMap-live, map_after, answer_map}
use Rattle.mc_model.proofs.MapLaws.{key_cases}
use Rattle.mc_model.proofs.MapLaws.KeyCases.{Same, Other}
pub use Rattle.mc_model.proofs.MapLaws.{lookup-put, lookup-without, lookup-live, length-put, length-without, entry_lookup, lookup_entry}

-- two keys are the same, or not, and the test says which

pub same_key : (q k : List ℕ) → (q ≡ k) ⊎ (q ≢ k)
same_key q k = elim (key_cases q k) [ Same s t ↦ inl s | Other s t ↦ inr s ]

pub same_test : (k : List ℕ) → bytes_eq k k ≡ true
same_test k = elim (key_cases k k) [ Same s t ↦ t | Other s t ↦ absurd (s refl) ]

pub other_test : (q k : List ℕ) → q ≢ k → bytes_eq q k ≡ false
other_test q k ne = elim (key_cases q k) [ Same s t ↦ absurd (ne s) | Other s t ↦ t ]

-- what holds of each bucket stays so

pub empty_is_bucket : IsBucket empty_bucket
empty_is_bucket = record { map = tt }

pub purge_is_bucket : (b : Bucket) → IsBucket b → IsBucket (purged b)
purge_is_bucket b h = record { map = IsMap-live b.moment b.items h.map }

pub put_is_bucket : (k : List ℕ) (x : Item) (b : Bucket) → IsBucket b → IsBucket (record b { items = put k x b.items })
put_is_bucket k x b h = record { map = IsMap-put k x b.items h.map }

pub remove_is_bucket : (k : List ℕ) (b : Bucket) → IsBucket b → IsBucket (record b { items = without k b.items })
remove_is_bucket k b h = record { map = IsMap-without k b.items h.map }

pub clear_is_bucket : (b : Bucket) → IsBucket b → IsBucket (record b { items = [] })
clear_is_bucket b h = record { map = tt }

pub counter_is_bucket : (counter : ℕ) (b : Bucket) → IsBucket b → IsBucket (record b { counter = counter })
counter_is_bucket counter b h = record { map = h.map }

pub moment_is_bucket : (moment : ℕ) (b : Bucket) → IsBucket b → IsBucket (record b { moment = moment })
moment_is_bucket moment b h = record { map = h.map }

-- a change that an answer names
pub change_is_bucket : (key : List ℕ) (d : Change) (b : Bucket) → IsBucket b → IsBucket (bucket_after key d b)
change_is_bucket key d b h = record { map = map_after key d b.items h.map }

pub answer_is_bucket : (room : Room) (b : Bucket) (now : ℕ) (c : Call) → IsBucket b → IsBucket (answer room b now c).0
answer_is_bucket room b now c h = record { map = answer_map room b now c h.map }
