-- The items that calls make.
use Rattle.std.specs.Prelude.{ℕ, ◌+◌, ◌-◌, ◌%◌, ◌^◌, Bool, ◌==◌, nat_le, min, List, if◌then◌else◌}
use Rattle.mc_model.specs.declared.outcome.Seen.{Seen}
use Rattle.mc_model.specs.Bucket.{Item}
use Rattle.mc_model.specs.Call.{Call}

-- the longest exptime that is counted from now, in seconds
abbrev pub thirty_days : ℕ
thirty_days = 2592000

-- protocol.txt, "Expiration times": 0 is never, a negative one is at once, up to 30 days are counted from now, more is the second itself
abbrev pub expiry_of : ℕ → Bool → ℕ → ℕ
expiry_of moment negative exptime =
    if exptime == 0 then 0
    else if negative then 1
    else if nat_le exptime thirty_days then min (moment + exptime) (2 ^ 64 - 1)
    else exptime

-- the next cas unique: one more than the counter
abbrev pub next_unique : Seen → ℕ
next_unique s = (s.counter + 1) % 2 ^ 64

-- the item that the call itself spells
abbrev pub item_of_call : Seen → Call → Item
item_of_call s c = record { flags = c.flags; expiry = expiry_of s.moment c.negative c.exptime; unique = next_unique s; value = c.block }

-- another value and a drawn unique; the flags and the expiry stay
abbrev pub item_with_value : Seen → Item → List ℕ → Item
item_with_value s x value = record x { value = value; unique = next_unique s }

-- the call's expiry; all else stays, the unique too
abbrev pub item_with_expiry : Seen → Call → Item → Item
item_with_expiry s c x = record x { expiry = expiry_of s.moment c.negative c.exptime }
