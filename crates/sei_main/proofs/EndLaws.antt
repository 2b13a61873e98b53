-- Events up to an abort, or with none.
use Rattle.std.proofs.Common.{◌≡◌, ℕ, ◌<◌, Bool, true, false, List, [], ◌∷◌, ◌++◌, refl}
use Rattle.std.specs.Prelude.{All}
use Rattle.std.proofs.lemmas.List.Elements.{All-nil, All-cons, All-append}
use Rattle.sei_main.specs.History.{Entry}
use Rattle.sei_main.specs.Events.{Event, Entered, Sent, Closed, Refused, Aborted}
use Rattle.sei_main.specs.Ends.{has_abort, NothingAfterAbort, IsOfStruck}
use Rattle.sei_main.specs.State.{closed_events}
use Rattle.sei_main.proofs.Answering.{sending}
use Rattle.sei_traverse.specs.declared.turned.Abort.{Abort}

abbrev pub HasNoAbort : List Event → Type 0
HasNoAbort events = has_abort events ≡ false

-- what ended was struck, and there is no abort, or nothing behind it

pub record GoesOn (events : List Event) : Type 0 where
  pub struck : All IsOfStruck events
  pub none : HasNoAbort events

pub record EndsStruck (events : List Event) : Type 0 where
  pub struck : All IsOfStruck events
  pub last : NothingAfterAbort events

pub last_none : (events : List Event) → HasNoAbort events → NothingAfterAbort events
last_none [] h = tt
last_none (Entered entry ∷ later) h = last_none later h
last_none (Sent c bytes ∷ later) h = last_none later h
last_none (Closed c ∷ later) h = last_none later h
last_none (Refused c strikes ∷ later) h = last_none later h
last_none (Aborted c t abort strikes ∷ later) h = cc

none_append : (xs ys : List Event) → HasNoAbort xs → HasNoAbort ys → HasNoAbort (xs ++ ys)
none_append [] ys h k = k
none_append (Entered entry ∷ xs) ys h k = none_append xs ys h k
none_append (Sent c bytes ∷ xs) ys h k = none_append xs ys h k
none_append (Closed c ∷ xs) ys h k = none_append xs ys h k
none_append (Refused c strikes ∷ xs) ys h k = none_append xs ys h k
none_append (Aborted c t abort strikes ∷ xs) ys h k = cc

last_append : (xs ys : List Event) → HasNoAbort xs → NothingAfterAbort ys → NothingAfterAbort (xs ++ ys)
last_append [] ys h k = k
last_append (Entered entry ∷ xs) ys h k = last_append xs ys h k
last_append (Sent c bytes ∷ xs) ys h k = last_append xs ys h k
last_append (Closed c ∷ xs) ys h k = last_append xs ys h k
last_append (Refused c strikes ∷ xs) ys h k = last_append xs ys h k
last_append (Aborted c t abort strikes ∷ xs) ys h k = cc

-- an abort among the later events
pub abort_behind : (xs ys : List Event) → has_abort ys ≡ true → has_abort (xs ++ ys) ≡ true
abort_behind [] ys h = h
abort_behind (Entered entry ∷ xs) ys h = abort_behind xs ys h
abort_behind (Sent c bytes ∷ xs) ys h = abort_behind xs ys h
abort_behind (Closed c ∷ xs) ys h = abort_behind xs ys h
abort_behind (Refused c strikes ∷ xs) ys h = abort_behind xs ys h
abort_behind (Aborted c t abort strikes ∷ xs) ys h = refl

pub goes_nil : GoesOn []
goes_nil = record { struck = All-nil IsOfStruck; none = refl }

pub goes_append : (xs ys : List Event) → GoesOn xs → GoesOn ys → GoesOn (xs ++ ys)
goes_append xs ys x y = record { struck = All-append IsOfStruck xs ys x.struck y.struck; none = none_append xs ys x.none y.none }

pub ends_append : (xs ys : List Event) → GoesOn xs → EndsStruck ys → EndsStruck (xs ++ ys)
ends_append xs ys x y = record { struck = All-append IsOfStruck xs ys x.struck y.struck; last = last_append xs ys x.none y.last }

pub ends_none : (xs : List Event) → GoesOn xs → EndsStruck xs
ends_none xs x = record { struck = x.struck; last = last_none xs x.none }

pub goes_entry : (entry : Entry) → GoesOn (Entered entry ∷ [])
goes_entry entry = record { struck = All-cons IsOfStruck (Entered entry) [] tt (All-nil IsOfStruck); none = refl }

pub goes_sending : (c : ℕ) (messages : List (List ℕ)) → GoesOn (sending c messages)
goes_sending c [] = goes_nil
goes_sending c (m ∷ ms) = let later : GoesOn (sending c ms) = goes_sending c ms in record { struck = All-cons IsOfStruck (Sent c m) (sending c ms) tt later.struck; none = later.none }

pub goes_closed : (c : ℕ) (closes : Bool) → GoesOn (closed_events c closes)
goes_closed c true = record { struck = All-cons IsOfStruck (Closed c) [] tt (All-nil IsOfStruck); none = refl }
goes_closed c false = goes_nil

pub goes_refused : (c strikes : ℕ) → 0 < strikes → GoesOn (Refused c strikes ∷ [])
goes_refused c strikes h = record { struck = All-cons IsOfStruck (Refused c strikes) [] h (All-nil IsOfStruck); none = refl }

pub ends_aborted : (c t : ℕ) (abort : Abort) (strikes : ℕ) → 0 < strikes → EndsStruck (Aborted c t abort strikes ∷ [])
ends_aborted c t abort strikes h = record { struck = All-cons IsOfStruck (Aborted c t abort strikes) [] h (All-nil IsOfStruck); last = refl }
