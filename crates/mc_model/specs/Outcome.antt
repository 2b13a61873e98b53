-- What a call does at its key: one row for each command, if the key has no item and if it has one.
use Rattle.std.specs.Prelude.{ℕ, ◌+◌, ◌-◌, ◌%◌, ◌^◌, Bool, true, false, ◌==◌, nat_lt, nat_le, List, [], ◌++◌, length, Option, Some, None, codes, if◌then◌else◌}
use Rattle.std.specs.Option.{option_map}
use Rattle.std.specs.Fmt.{decimal}
use Rattle.mc_model.specs.declared.call.Verb.{Verb}
use Rattle.mc_model.specs.declared.call.Verb.TheVariants.{Set, Add, Replace, Append, Prepend, Cas, Get, Gets, Gat, Gats, Touch, Delete, Incr, Decr, Flush, Fixed}
use Rattle.mc_model.specs.declared.outcome.Seen.{Seen}
use Rattle.mc_model.specs.declared.outcome.Change.{Change}
use Rattle.mc_model.specs.declared.outcome.Change.TheVariants.{Keep, Put, Draw, Make, Remove, Clear}
use Rattle.mc_model.specs.Texts.{line, text_line}
use Rattle.mc_model.specs.Numbers.{counter_value}
use Rattle.mc_model.specs.Bucket.{Item}
use Rattle.mc_model.specs.Call.{Call}
use Rattle.mc_model.specs.Items.{item_of_call, item_with_value, item_with_expiry}
use Rattle.mc_model.specs.Replies.{end_text, value_text}

-- what becomes of the item at the key, and the reply
pub record Outcome : Type 0 where
  pub change : Change
  pub reply : List ℕ

-- nothing changes
abbrev pub reply_only : List ℕ → Outcome
reply_only reply = record { change = Keep; reply = reply }

-- the call's item takes the place of the one at the key, with a drawn unique
abbrev pub storing : Seen → Call → Outcome
storing s c = record { change = Draw (item_of_call s c); reply = line (codes "STORED") }

-- the call's item is a new one, with a drawn unique, if there are fewer items than slots
abbrev pub adding : Seen → Call → Outcome
adding s c =
    if nat_lt s.count s.room.slots then record { change = Make (item_of_call s c); reply = line (codes "STORED") }
    else reply_only (line (codes "SERVER_ERROR out of memory storing object"))

-- as storing, if the uniques are equal
abbrev pub comparing : Seen → Call → Item → Outcome
comparing s c x = if x.unique == c.unique then storing s c else reply_only (line (codes "EXISTS"))

-- the item gets this longer value and a drawn unique, if the value is within the limit
abbrev pub joining : Seen → Item → List ℕ → Outcome
joining s x value =
    if nat_le (length value) s.room.value_bytes then record { change = Draw (item_with_value s x value); reply = line (codes "STORED") }
    else reply_only (line (codes "SERVER_ERROR object too large for cache"))

-- the item gets the digits of this number as its value, and a drawn unique, if there is such a number
abbrev pub counting : Seen → Item → Option ℕ → Outcome
counting s x None = reply_only (line (codes "CLIENT_ERROR cannot increment or decrement non-numeric value"))
counting s x (Some n) = record { change = Draw (item_with_value s x (decimal n)); reply = line (decimal n) }

-- the item is shown
abbrev pub reading : Bool → Call → Item → Outcome
reading with_unique c x = reply_only (value_text with_unique c.key x ++ end_text c.last)

-- the item is shown, and gets the call's expiry
abbrev pub reading_and_touching : Bool → Seen → Call → Item → Outcome
reading_and_touching with_unique s c x =
    record { change = Put (item_with_expiry s c x); reply = value_text with_unique c.key x ++ end_text c.last }

-- the item gets the call's expiry
abbrev pub touching : Seen → Call → Item → Outcome
touching s c x = record { change = Put (item_with_expiry s c x); reply = line (codes "TOUCHED") }

-- the item leaves
abbrev pub removing : Outcome
removing = record { change = Remove; reply = line (codes "DELETED") }

-- all items of the bucket leave. Only the request's last bucket answers
abbrev pub clearing : Call → Outcome
clearing c = record { change = Clear; reply = if c.last then line (codes "OK") else [] }

-- by the command, and by the item that is at the key: None if there is none
abbrev pub outcome_of : Seen → Call → Verb → Option Item → Outcome
outcome_of s c Set None = adding s c
outcome_of s c Set (Some x) = storing s c
outcome_of s c Add None = adding s c
outcome_of s c Add (Some x) = reply_only (line (codes "NOT_STORED"))
outcome_of s c Replace None = reply_only (line (codes "NOT_STORED"))
outcome_of s c Replace (Some x) = storing s c
outcome_of s c Append None = reply_only (line (codes "NOT_STORED"))
outcome_of s c Append (Some x) = joining s x (x.value ++ c.block)
outcome_of s c Prepend None = reply_only (line (codes "NOT_STORED"))
outcome_of s c Prepend (Some x) = joining s x (c.block ++ x.value)
outcome_of s c Cas None = reply_only (line (codes "NOT_FOUND"))
outcome_of s c Cas (Some x) = comparing s c x
outcome_of s c Get None = reply_only (end_text c.last)
outcome_of s c Get (Some x) = reading false c x
outcome_of s c Gets None = reply_only (end_text c.last)
outcome_of s c Gets (Some x) = reading true c x
outcome_of s c Gat None = reply_only (end_text c.last)
outcome_of s c Gat (Some x) = reading_and_touching false s c x
outcome_of s c Gats None = reply_only (end_text c.last)
outcome_of s c Gats (Some x) = reading_and_touching true s c x
outcome_of s c Touch None = reply_only (line (codes "NOT_FOUND"))
outcome_of s c Touch (Some x) = touching s c x
outcome_of s c Delete None = reply_only (line (codes "NOT_FOUND"))
outcome_of s c Delete (Some x) = removing
outcome_of s c Incr None = reply_only (line (codes "NOT_FOUND"))
outcome_of s c Incr (Some x) = counting s x (option_map (λ n. (n + c.value) % 2 ^ 64) (counter_value x.value))
outcome_of s c Decr None = reply_only (line (codes "NOT_FOUND"))
outcome_of s c Decr (Some x) = counting s x (option_map (λ n. n - c.value) (counter_value x.value))
outcome_of s c Flush _ = clearing c
outcome_of s c Fixed _ = reply_only (text_line c.text)
