-- A bucket within its room.
use Rattle.std.specs.Prelude.{◌≤◌, All, length}
use Rattle.mc_model.specs.declared.call.Room.{Room}
use Rattle.mc_model.specs.Bucket.{Bucket, IsMap}

-- each key stands once, there are no more items than slots, and no value is longer than the room allows
pub record IsWithin (room : Room) (b : Bucket) : Type 0 where
  pub map : IsMap b.items
  pub few : length b.items ≤ room.slots
  pub short : All (λ e. length e.1.value ≤ room.value_bytes) b.items
