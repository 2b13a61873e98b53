-- What the world keeps, step by step, on a server that isolates faults.
use Rattle.std.proofs.Common.{◌≡◌, ◌≢◌, ℕ, zero, suc, ◌+◌, ◌<◌, ◌^◌, Bool, true, false, List, [], ◌∷◌, ◌++◌, length, refl, ap, sym, ◌∙◌, subst, arith, Option, Some, None}
use Rattle.std.specs.Prelude.{if◌then◌else◌, ◌==◌, slice_set, slice_index_or, All}
use Rattle.std.proofs.lemmas.Bool.Decides.{nat_tests}
use Rattle.std.proofs.lemmas.List.{append-nil, get_or-set_same, get_or-set_other}
use Rattle.std.proofs.lemmas.List.Elements.{filter-append, All-set}
use Rattle.mc_model.specs.declared.geometry.Geometry.{Geometry}
use Rattle.mc_model.specs.Call.{Placed}
use Rattle.mc_model.specs.Server.{Server}
use Rattle.mc_text.specs.declared.limits.Limits.{Limits}
use Rattle.mc_text.specs.Meaning.{Meaning, calls_of, ends_connection}
use Rattle.mc_text.specs.Stream.{IsPrefixOf}
use Rattle.sei_fault.specs.declared.plan.Planned.{Planned}
use Rattle.sei_traverse.specs.declared.turned.State.{State as EndState}
use Rattle.sei_traverse.specs.declared.turned.State.TheVariants.{Finished, Refused, Aborted}
use Rattle.sei_main.specs.declared.plans.CallNumber.{CallNumber}
use Rattle.sei_main.specs.Answering.{Answering}
use Rattle.sei_main.specs.Asked.{IsCallAt}
use Rattle.sei_main.specs.History.{Entry, IsLegal}
use Rattle.sei_main.specs.Own.{calls_in, own_entries, messages_of}
use Rattle.sei_main.specs.Ends.{has_abort}
use Rattle.sei_main.specs.Events.{Event, entries_of, sent_to}
use Rattle.sei_main.specs.Seats.{Seat, empty_seat, taken_more, stopped}
use Rattle.sei_main.specs.State.{ToldOf, Stepping, told, idle, behind, closed_events, next_request, limits_of, seat_at, round_from_by, round_by, rounds_by}
use Rattle.sei_main.specs.Serving.{Asking, RequestResult, asking_at, answers_by, seat_for, closing_events, is_abort, takes_request_by, step_front_by, step_by}
use Rattle.sei_main.proofs.Answering.{entries_append, sent_append}
use Rattle.sei_main.proofs.AnswersKept.{AnswersKept, IsPart, StandsBehind, answers_kept}
use Rattle.sei_main.proofs.AnswersKept.AnswersKept.{Whole, Turned, Ended}
use Rattle.sei_main.proofs.Calls.{calls_stand}
use Rattle.sei_main.proofs.EndLaws.{GoesOn, EndsStruck, goes_append, goes_closed, ends_append, ends_none, abort_behind}
use Rattle.sei_main.proofs.KeptSeat.{SeatKept, taken_kept}
use Rattle.sei_main.specs.Outcomes.{IsolatesFaults}
use Rattle.sei_main.proofs.Outcomes.{AsksCalls}
use Rattle.sei_main.proofs.OwnEvents.{IsOwnOf, own_behind, own_closed}
use Rattle.sei_main.proofs.Rounds.{IsWithin, next_within}
use Rattle.sei_main.proofs.SeatBytes.{IsFedBytes, fed_at}
use Rattle.sei_main.proofs.SeatStands.{SeatStands, opens, stopped_stands}
use Rattle.sei_main.proofs.SeatStands.SeatStands.{Answers}
use Rattle.sei_main.proofs.Steps.{told_behind, told_idle}

-- fed: what was fed so far to each connection
pub record Kept {S : Type 0} (R : S → Server → Type 0) (g : Geometry) (plans : List (CallNumber × Planned)) (fed : ℕ → List ℕ) (t : ToldOf S) : Type 0 where
  pub geometry : t.state.geometry ≡ g
  pub plans_are : t.state.plans ≡ plans
  pub small : t.state.clock < 2 ^ 64
  pub bytes : All IsFedBytes t.state.seats
  pub legal : IsLegal g (entries_of t.events)
  pub ends : EndsStruck t.events
  pub told : t.state.aborted ≡ true → has_abort t.events ≡ true
  -- until a traversal aborts
  pub goes : t.state.aborted ≡ false → GoesOn t.events
  pub stands : t.state.aborted ≡ false → StandsBehind R g t.state.server (entries_of t.events)
  pub seats : (c : ℕ) → SeatStands (length plans) (limits_of g) (fed c) (own_entries c (entries_of t.events)) (sent_to c t.events) (seat_at t.state c)

-- a fact of a connection at equal lists and seats
moved : (plans : ℕ) (l : Limits) (fed : List ℕ) (own own' : List Entry) (sent sent' : List (List ℕ)) (seat seat' : Seat) → own' ≡ own → sent' ≡ sent → seat' ≡ seat
    → SeatStands plans l fed own sent seat → SeatStands plans l fed own' sent' seat'
moved plans l fed own own' sent sent' seat seat' a b c h =
    subst (λ (x : Seat). SeatStands plans l fed own' sent' x) (sym c) (subst (λ (x : List (List ℕ)). SeatStands plans l fed own' x seat) (sym b) (subst (λ (x : List Entry). SeatStands plans l fed x sent seat) (sym a) h))

has_seat : (l : Limits) (seats : List Seat) (c size : ℕ) (m : Meaning) → next_request l (slice_index_or seats c empty_seat) ≡ Some (size, m) → c < length seats
has_seat l [] c size m e = let w : IsWithin empty_seat size = next_within l empty_seat size m e in absurd (omega (arith, w.some, w.within))
has_seat l (x ∷ seats) zero size m e = omega arith
has_seat l (x ∷ seats) (suc c) size m e = omega (arith, has_seat l seats c size m e)

module _ {S : Type 0} (R : S → Server → Type 0) (g : Geometry) (plans : List (CallNumber × Planned)) (fed : ℕ → List ℕ) where
  -- events of connection c alone, as connection d sees them
  keep_at : (t : ToldOf S) (c d : ℕ) (events : List Event) (entries answered : List Entry) (seat : Seat) (test : Bool) → (c == d) ≡ test → IsOwnOf c events entries answered → Kept R g plans fed t
      → SeatStands (length plans) (limits_of g) (fed c) (own_entries c (entries_of t.events) ++ entries) (sent_to c t.events ++ messages_of answered) seat → c < length t.state.seats
      → SeatStands (length plans) (limits_of g) (fed d) (own_entries d (entries_of (t.events ++ events))) (sent_to d (t.events ++ events)) (slice_index_or (slice_set t.state.seats c seat) d empty_seat)
  keep_at t c d events entries answered seat true q o k here inside =
      let same : c ≡ d = grind (arith, nat_tests) in
      let history : List Entry = entries_of t.events in
      subst (λ (x : ℕ). SeatStands (length plans) (limits_of g) (fed x) (own_entries x (entries_of (t.events ++ events))) (sent_to x (t.events ++ events)) (slice_index_or (slice_set t.state.seats c seat) x empty_seat)) same
      (moved (length plans) (limits_of g) (fed c) _ _ _ _ seat _
      (ap (own_entries c) (entries_append t.events events ∙ ap (λ (es : List Entry). history ++ es) o.entries_are)
      ∙ filter-append (λ (e : Entry). e.connection == c) history entries ∙ ap (λ (es : List Entry). own_entries c history ++ es) o.own)
      (sent_append c t.events events ∙ ap (λ (m : List (List ℕ)). sent_to c t.events ++ m) o.sent)
      (get_or-set_same t.state.seats c seat empty_seat inside)
      here)
  keep_at t c d events entries answered seat false q o k here inside =
      let other : c ≢ d = grind (arith, nat_tests) in
      let back : d ≢ c = grind (arith, nat_tests) in
      let history : List Entry = entries_of t.events in
      moved (length plans) (limits_of g) (fed d) _ _ _ _ (seat_at t.state d) _
      (ap (own_entries d) (entries_append t.events events ∙ ap (λ (es : List Entry). history ++ es) o.entries_are)
      ∙ filter-append (λ (e : Entry). e.connection == d) history entries ∙ ap (λ (es : List Entry). own_entries d history ++ es) (o.others d other) ∙ append-nil (own_entries d history))
      (sent_append d t.events events ∙ ap (λ (m : List (List ℕ)). sent_to d t.events ++ m) (o.unsent d other) ∙ append-nil (sent_to d t.events))
      (get_or-set_other t.state.seats c d seat empty_seat back)
      (k.seats d)

  -- a connection takes a request, whose calls were answered so
  module _ (t : ToldOf S) (k : Kept R g plans fed t) (goes : t.state.aborted ≡ false) (c size : ℕ) (m : Meaning) (next : next_request (limits_of g) (seat_at t.state c) ≡ Some (size, m)) (x : RequestResult S) (count : ℕ) (count_is : count ≡ length (calls_of g.buckets m)) where
    abbrev seat : Seat
    seat = seat_at t.state c

    abbrev history : List Entry
    history = entries_of t.events

    abbrev closes : Bool
    closes = ends_connection m

    abbrev new : Seat
    new = seat_for x.state seat size count x.messages closes

    abbrev later : List Event
    later = x.events ++ closing_events x.state c closes

    abbrev next_told : ToldOf S
    next_told = record {
      state = record t.state { server = x.server; seats = slice_set t.state.seats c new; aborted = is_abort x.state };
      events = t.events ++ later;
    }

    open_kept : SeatKept (limits_of g) (fed c) (own_entries c history) (sent_to c t.events) seat
    open_kept = opens (length plans) (limits_of g) (fed c) (own_entries c history) (sent_to c t.events) seat (next_within (limits_of g) seat size m next).opened (k.seats c)

    -- the entries and the messages of the request, the connection and the events behind it
    pub record IsTaken (entries answered : List Entry) : Type 0 where
      pub own : IsOwnOf c later entries answered
      pub legal : IsLegal g (history ++ entries)
      pub stands : SeatStands (length plans) (limits_of g) (fed c) (own_entries c history ++ entries) (sent_to c t.events ++ messages_of answered) new
      pub fed_is : new.fed ≡ seat.fed
      pub ends : EndsStruck later
      pub told : is_abort x.state ≡ true → has_abort later ≡ true
      pub goes_on : is_abort x.state ≡ false → GoesOn later
      pub server : is_abort x.state ≡ false → StandsBehind R g x.server (history ++ entries)

    taken : (entries answered : List Entry) → IsTaken entries answered → Kept R g plans fed next_told
    taken entries answered h =
        let all : entries_of (t.events ++ later) ≡ history ++ entries = entries_append t.events later ∙ ap (λ (es : List Entry). history ++ es) h.own.entries_are in
        record {
          geometry = k.geometry;
          plans_are = k.plans_are;
          small = k.small;
          bytes = All-set IsFedBytes t.state.seats c new (subst (All (λ b. b < 256)) (sym h.fed_is) (fed_at t.state.seats c k.bytes)) k.bytes;
          legal = subst (IsLegal g) (sym all) h.legal;
          ends = ends_append t.events later (k.goes goes) h.ends;
          told = λ e. abort_behind t.events later (h.told e);
          goes = λ e. goes_append t.events later (k.goes goes) (h.goes_on e);
          stands = λ e. subst (StandsBehind R g x.server) (sym all) (h.server e);
          seats = λ d. keep_at t c d later entries answered new (c == d) refl h.own k h.stands (has_seat (limits_of g) t.state.seats c size m next);
        }

    -- all of its calls were answered
    whole : (entries : List Entry) → IsPart g history c seat.entered 0 (calls_of g.buckets m) x.events x.messages entries entries → x.state ≡ Finished → calls_in entries ≡ calls_of g.buckets m → GoesOn x.events
        → StandsBehind R g x.server (history ++ entries) → IsTaken entries entries
    whole entries part state all goes_on server =
        let l : Limits = limits_of g in
        let sent : x.messages ≡ length (messages_of entries) = omega (arith, part.sent_is) in
        let new_is : new ≡ taken_more seat size (length (calls_of g.buckets m)) (length (messages_of entries)) closes =
        ap (λ (o : EndState). seat_for o seat size count x.messages closes) state
        ∙ ap (λ (n : ℕ). taken_more seat size n x.messages closes) count_is
        ∙ ap (λ (n : ℕ). taken_more seat size (length (calls_of g.buckets m)) n closes) sent in
        let later_is : later ≡ x.events ++ closed_events c closes = ap (λ (o : EndState). x.events ++ closing_events o c closes) state in
        let goes_later : GoesOn later = subst GoesOn (sym later_is) (goes_append x.events (closed_events c closes) goes_on (goes_closed c closes)) in
        record {
          own = subst (λ (es : List Event). IsOwnOf c es entries entries) (sym later_is) (own_behind c x.events (closed_events c closes) entries entries part.own (own_closed c closes));
          legal = part.legal;
          stands = Answers (subst (SeatKept l (fed c) (own_entries c history ++ entries) (sent_to c t.events ++ messages_of entries)) (sym new_is)
              (taken_kept l (fed c) (own_entries c history) (sent_to c t.events) seat size m entries next all part.counted open_kept));
          fed_is = ap (λ (s : Seat). s.fed) new_is;
          ends = ends_none later goes_later;
          told = λ e. let z : false ≡ true = sym (ap is_abort state) ∙ e in cc;
          goes_on = λ e. goes_later;
          server = λ e. server;
        }

    -- the connection stopped in it
    cut : (entries answered : List Entry) → IsPart g history c seat.entered 0 (calls_of g.buckets m) x.events x.messages entries answered → IsPrefixOf answered entries → 0 < length plans
        → new ≡ stopped seat x.messages → later ≡ x.events → EndsStruck x.events → (is_abort x.state ≡ true → has_abort x.events ≡ true) → (is_abort x.state ≡ false → GoesOn x.events) → (is_abort x.state ≡ false → StandsBehind R g x.server (history ++ entries)) → IsTaken entries answered
    cut entries answered part first planned new_is later_is ends told goes_on server =
        let sent : x.messages ≡ length (messages_of answered) = omega (arith, part.sent_is) in
        let seat_is : new ≡ stopped seat (length (messages_of answered)) = new_is ∙ ap (stopped seat) sent in
        record {
          own = subst (λ (es : List Event). IsOwnOf c es entries answered) (sym later_is) part.own;
          legal = part.legal;
          stands = subst (SeatStands (length plans) (limits_of g) (fed c) (own_entries c history ++ entries) (sent_to c t.events ++ messages_of answered)) (sym seat_is)
              (stopped_stands (length plans) (limits_of g) (fed c) (own_entries c history) entries answered (sent_to c t.events) seat size m next planned part.calls_are part.counted first open_kept);
          fed_is = ap (λ (s : Seat). s.fed) new_is;
          ends = subst EndsStruck (sym later_is) ends;
          told = λ e. ap has_abort later_is ∙ told e;
          goes_on = λ e. subst GoesOn (sym later_is) (goes_on e);
          server = server;
        }

    silent : (state : EndState) → x.state ≡ state → closing_events state c closes ≡ [] → later ≡ x.events
    silent state e none = ap (λ (o : EndState). x.events ++ closing_events o c closes) e ∙ ap (λ (es : List Event). x.events ++ es) none ∙ append-nil x.events

    takes_kept : AnswersKept R g history c seat.entered 0 plans (calls_of g.buckets m) x → Kept R g plans fed next_told
    takes_kept (Whole entries part state all goes_on server) = taken entries entries (whole entries part state all goes_on server)
    takes_kept (Turned entries part state planned goes_on server) =
        taken entries entries (cut entries entries part ([], sym (append-nil entries)) planned (ap (λ (o : EndState). seat_for o seat size count x.messages closes) state) (silent Refused state refl) (ends_none x.events goes_on) (λ e. let z : false ≡ true = sym (ap is_abort state) ∙ e in cc) (λ e. goes_on) (λ e. server))
    takes_kept (Ended entries answered part first abort state planned ends told) =
        taken entries answered
        (cut entries answered part first planned (ap (λ (o : EndState). seat_for o seat size count x.messages closes) state) (silent (Aborted abort) state refl) ends (λ e. told)
        (λ e. let z : true ≡ false = sym (ap is_abort state) ∙ e in cc) (λ e. let z : true ≡ false = sym (ap is_abort state) ∙ e in cc))

module _ {S : Type 0} (answering : Answering S) (R : S → Server → Type 0) (g : Geometry) (isolates : IsolatesFaults answering g R) (asks : AsksCalls g) (some : 0 < g.buckets) (plans : List (CallNumber × Planned)) (fed : ℕ → List ℕ) where
  takes_keeps : (t : ToldOf S) (c size : ℕ) (m : Meaning) → t.state.aborted ≡ false → next_request (limits_of g) (seat_at t.state c) ≡ Some (size, m) → Kept R g plans fed t
      → Kept R g plans fed (told t (takes_request_by answering t.state c (seat_at t.state c) size m))
  takes_keeps t c size m goes next k =
      let seat : Seat = seat_at t.state c in
      let calls : List Placed = calls_of g.buckets m in
      let are : calls_of t.state.geometry.buckets m ≡ calls = ap (λ (x : Geometry). calls_of x.buckets m) k.geometry in
      let q : Asking = asking_at t.state.clock t.state.plans c seat size in
      let n = asks seat size m (fed_at t.state.seats c k.bytes) next in
      let first : seat.entered + 0 ≡ seat.entered = omega arith in
      let kept : AnswersKept R g (entries_of t.events) c (seat.entered + 0) 0 t.state.plans calls (answers_by answering q 0 0 t.state.server calls) =
      answers_kept answering R g isolates q k.small n.0 (entries_of t.events) 0 0 t.state.server calls (calls_stand (limits_of g) seat size m next some)
      (λ i p e. let same : i ≡ 0 + i = omega arith in subst (λ (j : ℕ). IsCallAt (limits_of g) q.text j p) same (n.1 i p e)) (k.stands goes) in
      let kept_at : AnswersKept R g (entries_of t.events) c seat.entered 0 plans calls (answers_by answering q 0 0 t.state.server calls) =
      subst (λ (ps : List (CallNumber × Planned)). AnswersKept R g (entries_of t.events) c seat.entered 0 ps calls (answers_by answering q 0 0 t.state.server calls)) k.plans_are
      (subst (λ (i : ℕ). AnswersKept R g (entries_of t.events) c i 0 t.state.plans calls (answers_by answering q 0 0 t.state.server calls)) first kept) in
      takes_kept R g plans fed t k goes c size m next (answers_by answering q 0 0 t.state.server (calls_of t.state.geometry.buckets m)) (length (calls_of t.state.geometry.buckets m)) (ap length are)
      (subst (λ (ps : List Placed). AnswersKept R g (entries_of t.events) c seat.entered 0 plans calls (answers_by answering q 0 0 t.state.server ps)) (sym are) kept_at)

  step_front_keeps : (t : ToldOf S) (c : ℕ) (o : Option (ℕ × Meaning)) → t.state.aborted ≡ false → next_request (limits_of g) (seat_at t.state c) ≡ o → Kept R g plans fed t
      → Kept R g plans fed (told t (step_front_by answering t.state c (seat_at t.state c) o))
  step_front_keeps t c None goes e k = subst (Kept R g plans fed) (sym (told_idle t)) k
  step_front_keeps t c (Some request) goes e k = takes_keeps t c request.0 request.1 goes e k

  step_keeps_if : (t : ToldOf S) (c : ℕ) (aborted : Bool) → t.state.aborted ≡ aborted → Kept R g plans fed t
      → Kept R g plans fed (told t (if aborted then idle t.state else step_front_by answering t.state c (seat_at t.state c) (next_request (limits_of t.state.geometry) (seat_at t.state c))))
  step_keeps_if t c true e k = subst (Kept R g plans fed) (sym (told_idle t)) k
  step_keeps_if t c false e k =
      step_front_keeps t c (next_request (limits_of t.state.geometry) (seat_at t.state c)) e (ap (λ (x : Geometry). next_request (limits_of x) (seat_at t.state c)) (sym k.geometry)) k

  step_keeps : (t : ToldOf S) (c : ℕ) → Kept R g plans fed t → Kept R g plans fed (told t (step_by answering t.state c))
  step_keeps t c k = step_keeps_if t c t.state.aborted refl k

  abbrev stepping : Stepping S
  stepping = step_by answering

  round_from_keeps : (count c : ℕ) (t : ToldOf S) → Kept R g plans fed t → Kept R g plans fed (told t (round_from_by stepping count c t.state))
  round_from_keeps zero c t k = subst (Kept R g plans fed) (sym (told_idle t)) k
  round_from_keeps (suc count) c t k =
      subst (Kept R g plans fed) (told_behind t (stepping t.state c) (round_from_by stepping count (c + 1))) (round_from_keeps count (c + 1) (told t (stepping t.state c)) (step_keeps t c k))

  rounds_kept_if : (m : ℕ) (t : ToldOf S) (test : Bool) → ((u : ToldOf S) → Kept R g plans fed u → Kept R g plans fed (told u (rounds_by stepping m u.state))) → Kept R g plans fed t
      → Kept R g plans fed (told t (if test then behind (round_by stepping t.state) (rounds_by stepping m) else round_by stepping t.state))
  rounds_kept_if m t true more k =
      subst (Kept R g plans fed) (told_behind t (round_by stepping t.state) (rounds_by stepping m)) (more (told t (round_by stepping t.state)) (round_from_keeps (length t.state.seats) 0 t k))
  rounds_kept_if m t false more k = round_from_keeps (length t.state.seats) 0 t k

  pub rounds_keep : (m : ℕ) (t : ToldOf S) → Kept R g plans fed t → Kept R g plans fed (told t (rounds_by stepping m t.state))
  rounds_keep zero t k = subst (Kept R g plans fed) (sym (told_idle t)) k
  rounds_keep (suc m) t k = rounds_kept_if m t (round_by stepping t.state).went (rounds_keep m) k
