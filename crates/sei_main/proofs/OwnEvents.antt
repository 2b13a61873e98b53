-- Events of one connection alone: their entries and their messages, as each connection sees them.
use Rattle.std.proofs.Common.{◌≡◌, ◌≢◌, ℕ, Bool, true, false, List, [], ◌∷◌, ◌++◌, refl, ap, sym, ◌∙◌, arith}
use Rattle.std.specs.Prelude.{if◌then◌else◌, ◌==◌}
use Rattle.std.proofs.lemmas.Bool.Decides.{nat_tests}
use Rattle.std.proofs.lemmas.List.{append-nil}
use Rattle.std.proofs.lemmas.List.Concat.{flat_map-append}
use Rattle.std.proofs.lemmas.List.Elements.{filter-append}
use Rattle.sei_main.specs.History.{Entry}
use Rattle.sei_main.specs.Own.{own_entries, message_of, messages_of}
use Rattle.sei_main.specs.Events.{Event, Entered, entries_of, sent_to}
use Rattle.sei_main.specs.State.{closed_events}
use Rattle.sei_main.specs.Serving.{sent_events, ended_events}
use Rattle.sei_main.proofs.Answering.{sending, no_entries, entries_append, sent_append}
use Rattle.sei_traverse.specs.declared.turned.State.{State}
use Rattle.sei_traverse.specs.declared.turned.State.TheVariants.{Went, Finished, Refused, Aborted}

-- these entries, and the messages of the answered ones
pub record IsOwnOf (c : ℕ) (events : List Event) (entries answered : List Entry) : Type 0 where
  pub entries_are : entries_of events ≡ entries
  pub own : own_entries c entries ≡ entries
  pub others : (d : ℕ) → c ≢ d → own_entries d entries ≡ []
  pub sent : sent_to c events ≡ messages_of answered
  pub unsent : (d : ℕ) → c ≢ d → sent_to d events ≡ []

same_true : (c : ℕ) → (c == c) ≡ true
same_true c = grind (arith, nat_tests)

other_false : (c d : ℕ) → c ≢ d → (c == d) ≡ false
other_false c d h = grind (arith, nat_tests)

sending_same : (c : ℕ) (messages : List (List ℕ)) → sent_to c (sending c messages) ≡ messages
sending_same c [] = refl
sending_same c (m ∷ ms) =
    ap (λ (t : Bool). (if t then m ∷ [] else []) ++ sent_to c (sending c ms)) (same_true c) ∙ ap (λ (x : List (List ℕ)). m ∷ x) (sending_same c ms)

sending_other : (c d : ℕ) (messages : List (List ℕ)) → c ≢ d → sent_to d (sending c messages) ≡ []
sending_other c d [] h = refl
sending_other c d (m ∷ ms) h =
    ap (λ (t : Bool). (if t then m ∷ [] else []) ++ sent_to d (sending c ms)) (other_false c d h) ∙ sending_other c d ms h

pub own_none : (c : ℕ) → IsOwnOf c [] [] []
own_none c = record { entries_are = refl; own = refl; others = λ d h. refl; sent = refl; unsent = λ d h. refl }

pub own_entry : (entry : Entry) → IsOwnOf entry.connection (Entered entry ∷ []) (entry ∷ []) []
own_entry entry = record {
  entries_are = refl;
  own = ap (λ (t : Bool). if t then entry ∷ [] else []) (same_true entry.connection);
  others = λ d h. ap (λ (t : Bool). if t then entry ∷ [] else []) (other_false entry.connection d h);
  sent = refl;
  unsent = λ d h. refl;
}

pub own_message : (c : ℕ) (entry : Entry) → IsOwnOf c (sent_events c entry.reply) [] (entry ∷ [])
own_message c entry = record {
  entries_are = no_entries c (message_of entry.reply);
  own = refl;
  others = λ d h. refl;
  sent = sending_same c (message_of entry.reply) ∙ sym (append-nil (message_of entry.reply));
  unsent = λ d h. sending_other c d (message_of entry.reply) h;
}

-- how a traversal ended, and that a connection closes, is no entry and no message

pub own_ended : (c number : ℕ) (state : State) (strikes : ℕ) → IsOwnOf c (ended_events c number state strikes) [] []
own_ended c number Went strikes = own_none c
own_ended c number Finished strikes = own_none c
own_ended c number Refused strikes = record { entries_are = refl; own = refl; others = λ d h. refl; sent = refl; unsent = λ d h. refl }
own_ended c number (Aborted abort) strikes = record { entries_are = refl; own = refl; others = λ d h. refl; sent = refl; unsent = λ d h. refl }

pub own_closed : (c : ℕ) (closes : Bool) → IsOwnOf c (closed_events c closes) [] []
own_closed c true = record { entries_are = refl; own = refl; others = λ d h. refl; sent = refl; unsent = λ d h. refl }
own_closed c false = own_none c

-- events behind others
pub own_append : (c : ℕ) (xs ys : List Event) (es fs answered later : List Entry) → IsOwnOf c xs es answered → IsOwnOf c ys fs later → IsOwnOf c (xs ++ ys) (es ++ fs) (answered ++ later)
own_append c xs ys es fs answered later x y = record {
  entries_are = entries_append xs ys ∙ ap (λ (zs : List Entry). zs ++ entries_of ys) x.entries_are ∙ ap (λ (zs : List Entry). es ++ zs) y.entries_are;
  own = filter-append (λ (e : Entry). e.connection == c) es fs ∙ ap (λ (zs : List Entry). zs ++ own_entries c fs) x.own ∙ ap (λ (zs : List Entry). es ++ zs) y.own;
  others = λ d h. filter-append (λ (e : Entry). e.connection == d) es fs ∙ ap (λ (zs : List Entry). zs ++ own_entries d fs) (x.others d h) ∙ y.others d h;
  sent = sent_append c xs ys ∙ ap (λ (zs : List (List ℕ)). zs ++ sent_to c ys) x.sent ∙ ap (λ (zs : List (List ℕ)). messages_of answered ++ zs) y.sent
      ∙ sym (flat_map-append (λ (e : Entry). message_of e.reply) answered later);
  unsent = λ d h. sent_append d xs ys ∙ ap (λ (zs : List (List ℕ)). zs ++ sent_to d ys) (x.unsent d h) ∙ y.unsent d h;
}

-- events behind others that are no entries and no messages
pub own_behind : (c : ℕ) (xs ys : List Event) (es answered : List Entry) → IsOwnOf c xs es answered → IsOwnOf c ys [] [] → IsOwnOf c (xs ++ ys) es answered
own_behind c xs ys es answered x y =
    let z : IsOwnOf c (xs ++ ys) (es ++ []) (answered ++ []) = own_append c xs ys es [] answered [] x y in
    record {
      entries_are = z.entries_are ∙ append-nil es;
      own = x.own;
      others = x.others;
      sent = z.sent ∙ ap messages_of (append-nil answered);
      unsent = z.unsent;
    }
