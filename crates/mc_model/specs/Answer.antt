-- The answer to a call: the bucket after it, and the reply.
use Rattle.std.specs.Prelude.{ℕ, List, [], length, if◌then◌else◌}
use Rattle.mc_model.specs.declared.call.Room.{Room}
use Rattle.mc_model.specs.declared.outcome.Seen.{Seen}
use Rattle.mc_model.specs.declared.outcome.Change.{Change}
use Rattle.mc_model.specs.declared.outcome.Change.TheVariants.{Keep, Put, Draw, Make, Remove, Clear}
use Rattle.mc_model.specs.Bucket.{Entries, Bucket, lookup, put, without, purged, arrived}
use Rattle.mc_model.specs.Call.{Call}
use Rattle.mc_model.specs.Outcome.{Outcome, outcome_of}

-- what a command sees of its bucket, besides the item at its key
abbrev pub seen_in : Room → Bucket → Seen
seen_in room b = record { room = room; moment = b.moment; counter = b.counter; count = length b.items }

-- the entries after a change at a key
abbrev pub items_after : List ℕ → Change → Entries → Entries
items_after key Keep es = es
items_after key (Put x) es = put key x es
items_after key (Draw x) es = put key x es
items_after key (Make x) es = put key x es
items_after key Remove es = without key es
items_after key Clear es = []

-- the counter after a change: the unique that was drawn, if one was
abbrev pub counter_after : Change → ℕ → ℕ
counter_after (Draw x) counter = x.unique
counter_after (Make x) counter = x.unique
counter_after _ counter = counter

-- the bucket after a change at a key
abbrev pub bucket_after : List ℕ → Change → Bucket → Bucket
bucket_after key d b = record { items = items_after key d b.items; moment = b.moment; counter = counter_after d b.counter }

-- what a call does at its key in this bucket, and its reply
abbrev pub outcome_in : Room → Bucket → Call → Outcome
outcome_in room b c = outcome_of (seen_in room b) c c.verb (lookup c.key b.items)

-- the moment goes on to the clock's answer, and what has expired leaves; the command is done at its key; what has expired then
-- leaves too, as an item that was stored with a negative exptime; and a call that is marked `noreply` has an empty reply
unfoldable pub answer : Room → Bucket → ℕ → Call → Bucket × List ℕ
answer room b now c =
    let a = arrived now b in
    let o = outcome_in room a c in
    (purged (bucket_after c.key o.change a), if c.noreply then [] else o.reply)
