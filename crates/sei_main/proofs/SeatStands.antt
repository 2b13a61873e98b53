-- What a connection keeps in a run with planned faults.
use Rattle.std.proofs.Common.{◌≡◌, ℕ, ◌+◌, ◌<◌, Bool, true, false, List, [], ◌∷◌, ◌++◌, length, drop, refl, ap, sym, ◌∙◌, subst, arith, Option, None, Some}
use Rattle.std.specs.Prelude.{if◌then◌else◌}
use Rattle.std.specs.List.{flat_map}
use Rattle.std.proofs.lemmas.List.{append_assoc, append-nil, length-append, map-append}
use Rattle.std.proofs.lemmas.List.Concat.{flat_map-append}
use Rattle.mc_model.specs.Call.{Placed}
use Rattle.mc_text.specs.declared.limits.Limits.{Limits}
use Rattle.mc_text.specs.Meaning.{Meaning, calls_of, ends_connection}
use Rattle.mc_text.specs.Front.{front}
use Rattle.mc_text.specs.Stream.{Takes, IsPrefixOf, requests, up_to_end, own_calls}
use Rattle.mc_text.proofs.Public.{takes_more, takes_push, takes_requests}
use Rattle.sei_main.specs.History.{Entry, placed_in}
use Rattle.sei_main.specs.Own.{AreCounted, IsNumbered, calls_in, message_of, messages_of}
use Rattle.sei_main.specs.Seats.{Seat, empty_seat, waiting, fed_more, stopped}
use Rattle.sei_main.specs.State.{next_request}
use Rattle.sei_main.proofs.KeptSeat.{SeatKept, empty_kept, fed_kept, counted_append}
use Rattle.sei_main.proofs.Rounds.{IsWithin, next_within}

-- a connection that stopped in a request: how it stood before, the request, and what was entered and sent of its calls
pub record SeatStopped (l : Limits) (fed : List ℕ) (own : List Entry) (sent : List (List ℕ)) (seat : Seat) : Type 0 where
  pub before : Seat
  pub whole : List Entry
  pub kept : SeatKept l fed whole (messages_of whole) before
  pub opened : before.closed ≡ false
  pub meaning : Meaning
  pub rest : List ℕ
  pub takes : Takes l fed (kept.requests ++ meaning ∷ []) rest
  pub begun : List Entry
  pub own_is : own ≡ whole ++ begun
  pub calls : IsPrefixOf (calls_in begun) (calls_of l.buckets meaning)
  pub counted : AreCounted before.entered begun
  pub answered : List Entry
  pub first : IsPrefixOf answered begun
  pub sent_is : sent ≡ messages_of whole ++ messages_of answered
  pub seat_is : seat ≡ stopped before (length (messages_of answered))

-- all its requests so far were answered; or it stopped in one, which takes a planned fault
pub data SeatStands (plans : ℕ) (l : Limits) (fed : List ℕ) (own : List Entry) (sent : List (List ℕ)) (seat : Seat) : Type 0 where
  Answers : SeatKept l fed own sent seat → SeatStands plans l fed own sent seat
  Stops : SeatStopped l fed own sent seat → 0 < plans → SeatStands plans l fed own sent seat

pub empty_stands : (plans : ℕ) (l : Limits) → SeatStands plans l [] [] [] empty_seat
empty_stands plans l = Answers (empty_kept l)

-- bytes were fed
pub fed_stands : (plans : ℕ) (l : Limits) (fed bytes : List ℕ) (own : List Entry) (sent : List (List ℕ)) (seat : Seat) → SeatStands plans l fed own sent seat → SeatStands plans l (fed ++ bytes) own sent (fed_more seat bytes)
unfolding fed_kept
fed_stands plans l fed bytes own sent seat (Answers k) = Answers (fed_kept l fed bytes own sent seat k)
fed_stands plans l fed bytes own sent seat (Stops s planned) =
    Stops (record {
      before = fed_more s.before bytes;
      whole = s.whole;
      kept = fed_kept l fed bytes s.whole (messages_of s.whole) s.before s.kept;
      opened = s.opened;
      meaning = s.meaning;
      rest = s.rest ++ bytes;
      takes = takes_more l fed bytes (s.kept.requests ++ s.meaning ∷ []) s.rest s.takes;
      begun = s.begun;
      own_is = s.own_is;
      calls = s.calls;
      counted = s.counted;
      answered = s.answered;
      first = s.first;
      sent_is = s.sent_is;
      seat_is = ap (λ (x : Seat). fed_more x bytes) s.seat_is;
    }) planned

-- a connection that has a request stands open, with all earlier ones answered
pub opens : (plans : ℕ) (l : Limits) (fed : List ℕ) (own : List Entry) (sent : List (List ℕ)) (seat : Seat) → seat.closed ≡ false → SeatStands plans l fed own sent seat → SeatKept l fed own sent seat
opens plans l fed own sent seat e (Answers k) = k
opens plans l fed own sent seat e (Stops s planned) = let z : true ≡ false = ap (λ (x : Seat). x.closed) (sym s.seat_is) ∙ e in cc

-- without planned faults none stops
pub unstopped : (l : Limits) (fed : List ℕ) (own : List Entry) (sent : List (List ℕ)) (seat : Seat) → SeatStands 0 l fed own sent seat → SeatKept l fed own sent seat
unstopped l fed own sent seat (Answers k) = k
unstopped l fed own sent seat (Stops s planned) = absurd (omega (arith, planned))

-- it stops in its next request
pub stopped_stands : (plans : ℕ) (l : Limits) (fed : List ℕ) (own begun answered : List Entry) (sent : List (List ℕ)) (seat : Seat) (size : ℕ) (m : Meaning) → next_request l seat ≡ Some (size, m) → 0 < plans
    → IsPrefixOf (calls_in begun) (calls_of l.buckets m) → AreCounted seat.entered begun → IsPrefixOf answered begun → SeatKept l fed own sent seat
    → SeatStands plans l fed (own ++ begun) (sent ++ messages_of answered) (stopped seat (length (messages_of answered)))
stopped_stands plans l fed own begun answered sent seat size m next planned calls counted first k =
    let w : IsWithin seat size = next_within l seat size m next in
    let here : front l (waiting seat) ≡ Some (size, m) = sym (ap next_by w.opened) ∙ next in
    Stops (record {
      before = seat;
      whole = own;
      kept = k_of k;
      opened = w.opened;
      meaning = m;
      rest = drop size (waiting seat);
      takes = takes_push l fed k.requests (waiting seat) size m k.takes here;
      begun = begun;
      own_is = refl;
      calls = calls;
      counted = counted;
      answered = answered;
      first = first;
      sent_is = ap (λ (s : List (List ℕ)). s ++ messages_of answered) k.messages;
      seat_is = refl;
    }) planned
  where
    next_by : Bool → Option (ℕ × Meaning)
    next_by b = if b then None else front l (waiting seat)

    -- its messages are those of its entries
    k_of : SeatKept l fed own sent seat → SeatKept l fed own (messages_of own) seat
    k_of k = record {
      fed_is = k.fed_is;
      requests = k.requests;
      takes = k.takes;
      calls = k.calls;
      ends = k.ends;
      counted = k.counted;
      entered = k.entered;
      messages = refl;
      sent_is = k.sent_is ∙ ap length k.messages;
      within = k.within;
    }

-- What is known of a connection then.

-- its own calls are those that were answered, and then others
calls_behind : (l : Limits) (fed : List ℕ) (own : List Entry) (sent : List (List ℕ)) (seat : Seat) → (k : SeatKept l fed own sent seat) → (later : List Meaning) (rest : List ℕ) → Takes l fed (k.requests ++ later) rest
    → own_calls l fed ≡ calls_in own ++ flat_map (calls_of l.buckets) (if seat.closed then [] else up_to_end (later ++ requests l rest))
calls_behind l fed own sent seat k later rest takes =
    let behind : List Meaning = if seat.closed then [] else up_to_end (later ++ requests l rest) in
    ap (λ (ms : List Meaning). flat_map (calls_of l.buckets) (up_to_end ms)) (takes_requests l fed (k.requests ++ later) rest takes ∙ append_assoc k.requests later (requests l rest))
    ∙ ap (flat_map (calls_of l.buckets)) (k.ends (later ++ requests l rest))
    ∙ flat_map-append (calls_of l.buckets) k.requests behind
    ∙ ap (λ (ps : List Placed). ps ++ flat_map (calls_of l.buckets) behind) (sym k.calls)

-- and those that wait
pub calls_split : (l : Limits) (fed : List ℕ) (own : List Entry) (sent : List (List ℕ)) (seat : Seat) → (k : SeatKept l fed own sent seat)
    → own_calls l fed ≡ calls_in own ++ flat_map (calls_of l.buckets) (if seat.closed then [] else up_to_end (requests l (waiting seat)))
calls_split l fed own sent seat k = calls_behind l fed own sent seat k [] (waiting seat) (subst (λ (ms : List Meaning). Takes l fed ms (waiting seat)) (sym (append-nil k.requests)) k.takes)

pub numbered_stands : (plans : ℕ) (l : Limits) (fed : List ℕ) (own : List Entry) (sent : List (List ℕ)) (seat : Seat) → SeatStands plans l fed own sent seat → IsNumbered l fed own
numbered_stands plans l fed own sent seat (Answers k) = record { counted = k.counted; calls = (_, calls_split l fed own sent seat k) }
numbered_stands plans l fed own sent seat (Stops s planned) =
    let more : List Meaning = if ends_connection s.meaning then [] else up_to_end (requests l s.rest) in
    let later : List Placed = flat_map (calls_of l.buckets) more in
    let e : s.before.entered ≡ 0 + length s.whole = omega (arith, s.kept.entered) in
    subst (IsNumbered l fed) (sym s.own_is) (record {
      counted = counted_append 0 s.whole s.begun s.kept.counted (subst (λ (n : ℕ). AreCounted n s.begun) e s.counted);
      calls = (
        s.calls.0 ++ later,
        calls_behind l fed s.whole (messages_of s.whole) s.before s.kept (s.meaning ∷ []) s.rest s.takes
            ∙ ap (λ (b : Bool). calls_in s.whole ++ flat_map (calls_of l.buckets) (if b then [] else up_to_end (s.meaning ∷ requests l s.rest))) s.opened
            ∙ ap (λ (ps : List Placed). calls_in s.whole ++ (ps ++ later)) s.calls.1
            ∙ ap (λ (ps : List Placed). calls_in s.whole ++ ps) (append_assoc (calls_in s.begun) s.calls.0 later)
            ∙ sym (append_assoc (calls_in s.whole) (calls_in s.begun) (s.calls.0 ++ later))
            ∙ ap (λ (ps : List Placed). ps ++ (s.calls.0 ++ later)) (sym (map-append placed_in s.whole s.begun)),
      );
    })

-- the messages of its first entries were sent, and counted
pub record SentStands (own : List Entry) (sent : List (List ℕ)) (seat : Seat) : Type 0 where
  pub answered : List Entry
  pub first : IsPrefixOf answered own
  pub sent_is : sent ≡ messages_of answered
  pub took : seat.sent ≡ length sent

pub sent_stands : (plans : ℕ) (l : Limits) (fed : List ℕ) (own : List Entry) (sent : List (List ℕ)) (seat : Seat) → SeatStands plans l fed own sent seat → SentStands own sent seat
sent_stands plans l fed own sent seat (Answers k) = record { answered = own; first = ([], sym (append-nil own)); sent_is = k.messages; took = k.sent_is }
sent_stands plans l fed own sent seat (Stops s planned) =
    let messages : sent ≡ messages_of (s.whole ++ s.answered) = s.sent_is ∙ sym (flat_map-append (λ (e : Entry). message_of e.reply) s.whole s.answered) in
    record {
      answered = s.whole ++ s.answered;
      first = (s.first.0, s.own_is ∙ ap (λ (es : List Entry). s.whole ++ es) s.first.1 ∙ sym (append_assoc s.whole s.answered s.first.0));
      sent_is = messages;
      took = ap (λ (x : Seat). x.sent) s.seat_is ∙ ap (λ (n : ℕ). n + length (messages_of s.answered)) s.kept.sent_is
          ∙ sym (length-append (messages_of s.whole) (messages_of s.answered)) ∙ ap length (sym s.sent_is);
    }
