-- The entries and the messages of events.
use Rattle.std.proofs.Common.{◌≡◌, ℕ, List, [], ◌∷◌, ◌++◌, refl, ap, ◌∙◌}
use Rattle.std.specs.List.{flat_map}
use Rattle.std.proofs.lemmas.List.Concat.{flat_map-append}
use Rattle.sei_main.specs.History.{Entry}
use Rattle.sei_main.specs.Own.{message_of}
use Rattle.sei_main.specs.Events.{Event, Sent, entry_in, entries_of, message_in, sent_to}
use Rattle.sei_main.specs.State.{entry_events}

-- the events that send these messages
abbrev pub sending : ℕ → List (List ℕ) → List Event
sending c messages = flat_map (λ bytes. Sent c bytes ∷ []) messages

pub no_entries : (c : ℕ) (messages : List (List ℕ)) → entries_of (sending c messages) ≡ []
no_entries c [] = refl
no_entries c (m ∷ ms) = no_entries c ms

pub entries_append : (xs ys : List Event) → entries_of (xs ++ ys) ≡ entries_of xs ++ entries_of ys
entries_append xs ys = flat_map-append entry_in xs ys

-- one entry is made
pub entries_answered : (entry : Entry) (later : List Event) → entries_of (entry_events entry ++ later) ≡ entry ∷ entries_of later
entries_answered entry later =
    entries_append (entry_events entry) later
    ∙ ap (λ (es : List Entry). (entry ∷ es) ++ entries_of later) (no_entries entry.connection (message_of entry.reply))

pub sent_append : (c : ℕ) (xs ys : List Event) → sent_to c (xs ++ ys) ≡ sent_to c xs ++ sent_to c ys
sent_append c xs ys = flat_map-append (message_in c) xs ys
