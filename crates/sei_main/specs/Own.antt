-- The entries of a connection, its calls, and its messages.
use Rattle.std.specs.Prelude.{◌≡◌, ℕ, ◌+◌, ◌==◌, List, [], ◌∷◌, map, filter, ⊤}
use Rattle.std.specs.List.{flat_map}
use Rattle.mc_model.specs.Call.{Placed}
use Rattle.mc_text.specs.declared.limits.Limits.{Limits}
use Rattle.mc_text.specs.Stream.{own_calls, IsPrefixOf}
use Rattle.sei_main.specs.History.{Entry, placed_in}

-- the entries of connection c, in order
abbrev pub own_entries : ℕ → List Entry → List Entry
own_entries c history = filter (λ entry. entry.connection == c) history

-- numbered one by one, from n on
abbrev pub AreCounted : ℕ → List Entry → Type 0
AreCounted n [] = ⊤
AreCounted n (entry ∷ entries) = (entry.number ≡ n) × AreCounted (n + 1) entries

abbrev pub calls_in : List Entry → List Placed
calls_in entries = map placed_in entries

-- a connection's entries: numbered from 0 on, and their calls are the first of its own
pub record IsNumbered (limits : Limits) (fed : List ℕ) (own : List Entry) : Type 0 where
  pub counted : AreCounted 0 own
  pub calls : IsPrefixOf (calls_in own) (own_calls limits fed)

-- the message of a reply; an empty reply has none
abbrev pub message_of : List ℕ → List (List ℕ)
message_of [] = []
message_of (b ∷ bs) = (b ∷ bs) ∷ []

-- the messages of the replies of these entries, in order
abbrev pub messages_of : List Entry → List (List ℕ)
messages_of entries = flat_map (λ entry. message_of entry.reply) entries

-- what a correct peer accepts of the messages sent to it: a plain one accepts all
abbrev pub accepted_of : List (List ℕ) → List (List ℕ)
accepted_of messages = messages
