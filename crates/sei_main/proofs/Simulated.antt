-- A server that isolates faults runs a script without any as the plain server does.
use Rattle.std.proofs.Common.{◌≡◌, ℕ, zero, suc, ◌+◌, ◌<◌, ◌^◌, Bool, true, false, List, [], ◌∷◌, ◌++◌, length, refl, ap, sym, ◌∙◌, subst, arith, Option, Some, None}
use Rattle.std.specs.Prelude.{if◌then◌else◌, ◌||◌, ◌&&◌, slice_set, slice_index_or, slice_get, take, All}
use Rattle.std.specs.List.{list_all}
use Rattle.std.proofs.lemmas.List.{append-nil, length-append}
use Rattle.std.proofs.lemmas.List.Elements.{All-nil, All-head, All-tail, All-append, All-push, All-set}
use Rattle.mc_model.specs.declared.geometry.Geometry.{Geometry}
use Rattle.mc_model.specs.Call.{Placed}
use Rattle.mc_model.specs.Server.{Server, server_answer}
use Rattle.mc_text.specs.Meaning.{Meaning, calls_of, ends_connection}
use Rattle.sei_fault.specs.declared.plan.Planned.{Planned}
use Rattle.sei_traverse.specs.declared.turned.State.{State as EndState}
use Rattle.sei_traverse.specs.declared.turned.State.TheVariants.{Finished}
use Rattle.sei_script.specs.AbortLines.{end_text}
use Rattle.sei_script.specs.declared.line.ScriptLine.{ScriptLine}
use Rattle.sei_script.specs.Effects.{Effect, Opens, Feeds, Serves, SetsClock, PlansFault, effect_of}
use Rattle.sei_script.specs.Context.{geometry_of}
use Rattle.sei_script.specs.SaysBytes.{DoesBytes, SaysBytes}
use Rattle.sei_main.specs.declared.plans.CallNumber.{CallNumber}
use Rattle.sei_main.specs.declared.world.service.Served.{Served}
use Rattle.sei_main.specs.Answering.{Asked, Answering, plain_served}
use Rattle.sei_main.specs.Asked.{IsCallAt}
use Rattle.sei_main.specs.Outcomes.{IsAskedOf, IsolatesFaults, IsAsThere}
use Rattle.sei_main.proofs.Outcomes.{AsksCalls, unplanned}
use Rattle.sei_main.specs.Own.{message_of, messages_of}
use Rattle.sei_main.specs.Events.{Event, Entered, entries_of}
use Rattle.sei_main.specs.History.{Entry}
use Rattle.sei_main.specs.Plans.{plans_by, plans_from}
use Rattle.sei_main.specs.Quiet.{is_quiet, is_quiet_effect, is_quiet_line}
use Rattle.sei_main.specs.Seats.{Seat, empty_seat, waiting, fed_more, taken_more}
use Rattle.sei_main.specs.State.{State, Told, Went, StateOf, ToldOf, WentOf, answers, takes_request, step_front, step, entry_for, entry_events, limits_of, next_request, bytes_waiting, idle, behind, seat_at, fed, round_from_by, round_by, rounds_by, done_by, led_by}
use Rattle.sei_main.specs.Serving.{Asking, RequestResult, asking_at, asked_in, served_events, sent_events, seat_for, closing_events, is_abort, on_with, answer_in, answers_by, takes_request_by, step_front_by, step_by}
use Rattle.sei_main.specs.Run.{start_of, after_by, run_from_by, run_by}
use Rattle.sei_main.specs.Report.{events_text, seats_text, closing_text, report_of}
use Rattle.sei_main.proofs.Answering.{entries_answered}
use Rattle.sei_main.proofs.SeatBytes.{IsFedBytes, fed_at}

-- worlds of one geometry with related servers, the same connections, which were fed bytes, and the same clock; no fault is planned
pub record Alike {S : Type 0} (R : S → Server → Type 0) (g : Geometry) (s : StateOf S) (t : State) : Type 0 where
  pub left : s.geometry ≡ g
  pub right : t.geometry ≡ g
  pub server : R s.server t.server
  pub seats : s.seats ≡ t.seats
  pub bytes : All IsFedBytes t.seats
  pub clock : s.clock ≡ t.clock
  pub small : t.clock < 2 ^ 64
  pub plans : s.plans ≡ []
  pub goes : s.aborted ≡ false
  pub right_goes : t.aborted ≡ false

pub record WentAlike {S : Type 0} (R : S → Server → Type 0) (g : Geometry) (v : WentOf S) (w : Went) : Type 0 where
  pub state : Alike R g v.state w.state
  pub events : v.events ≡ w.events
  pub went : v.went ≡ w.went

pub record ToldAlike {S : Type 0} (R : S → Server → Type 0) (g : Geometry) (t : ToldOf S) (u : Told) : Type 0 where
  pub state : Alike R g t.state u.state
  pub events : t.events ≡ u.events

module _ {S : Type 0} (R : S → Server → Type 0) (g : Geometry) where
  went_same : (v v' : WentOf S) (w w' : Went) → v ≡ v' → w ≡ w' → WentAlike R g v' w' → WentAlike R g v w
  went_same v v' w w' p q a = subst (λ (x : WentOf S). WentAlike R g x w) (sym p) (subst (λ (x : Went). WentAlike R g v' x) (sym q) a)

  idle_alike : (s : StateOf S) (t : State) → Alike R g s t → WentAlike R g (idle s) (idle t)
  idle_alike s t a = record { state = a; events = refl; went = refl }

  behind_alike : (v : WentOf S) (w : Went) (k : StateOf S → WentOf S) (l : State → Went) → WentAlike R g v w → ((s : StateOf S) (t : State) → Alike R g s t → WentAlike R g (k s) (l t))
      → WentAlike R g (behind v k) (behind w l)
  behind_alike v w k l a next =
      let n : WentAlike R g (k v.state) (l w.state) = next v.state w.state a.state in
      record {
        state = n.state;
        events = ap (λ (es : List Event). es ++ (k v.state).events) a.events ∙ ap (λ (es : List Event). w.events ++ es) n.events;
        went = ap (λ (b : Bool). b || (k v.state).went) a.went ∙ ap (λ (b : Bool). w.went || b) n.went;
      }

-- the events of a call that is served plainly
pub plain_events : (now c n : ℕ) (p : Placed) (reply : List ℕ) (strikes : ℕ) → served_events c n p (plain_served now reply) strikes ≡ entry_events (entry_for now c n p reply)
plain_events now c n p reply strikes = ap (λ (es : List Event). Entered (entry_for now c n p reply) ∷ es) (append-nil (sent_events c reply))

-- calls that were answered alike
pub record AnswersAlike {S : Type 0} (R : S → Server → Type 0) (messages : ℕ) (x : RequestResult S) (y : Server × List Event) : Type 0 where
  pub server : R x.server y.0
  pub events : x.events ≡ y.1
  pub messages_are : x.messages ≡ messages + length (messages_of (entries_of y.1))
  pub finished : x.state ≡ Finished

module _ {S : Type 0} (answering : Answering S) (g : Geometry) (R : S → Server → Type 0) (isolates : IsolatesFaults answering g R) where
  answers_alike : (q : Asking) (nth messages number : ℕ) (s : S) (t : Server) (ps : List Placed) → q.now < 2 ^ 64 → q.plans ≡ [] → All (λ b. b < 256) q.text → number ≡ q.first + nth →
      ((k : ℕ) (p : Placed) → slice_get ps k ≡ Some p → IsCallAt (limits_of g) q.text (nth + k) p) → R s t →
      AnswersAlike R messages (answers_by answering q nth messages s ps) (answers q.now q.connection number t ps)
  answers_alike q nth messages number s t [] small quiet bytes n calls r = record { server = r; events = refl; messages_are = omega arith; finished = refl }
  answers_alike q nth messages number s t (p ∷ ps) small quiet bytes n calls r =
      let a : Asked = asked_in q nth messages p in
      let first : nth + 0 ≡ nth = omega arith in
      let one : number + 1 ≡ q.first + (nth + 1) = omega (arith, n) in
      let is : IsAskedOf g a = record {
        call = subst (λ (k : ℕ). IsCallAt (limits_of g) q.text k p) first (calls 0 p refl);
        bytes = bytes;
        small = small;
      } in
      let none : a.plan ≡ None = ap (λ (plans : List (CallNumber × Planned)). (asked_in (record q { plans = plans }) nth messages p).plan) quiet in
      let there : IsAsThere R t a (answering s a) = unplanned R t a (answering s a) (isolates s t a is r) none in
      let reply : List ℕ = (server_answer t q.now p).1 in
      let here : RequestResult S = answer_in answering q nth messages s p in
      let served : (answering s a).served ≡ plain_served q.now reply = there.same in
      let strikes : ℕ = (answering s a).strikes in
      let happened : here.events ≡ entry_events (entry_for q.now q.connection number p reply) =
      ap (λ (x : Served). served_events q.connection (q.first + nth) p x strikes) served ∙ plain_events q.now q.connection (q.first + nth) p reply strikes ∙ ap (λ (m : ℕ). entry_events (entry_for q.now q.connection m p reply)) (sym n) in
      let rest = answers_alike q (nth + 1) here.messages (number + 1) here.server (server_answer t q.now p).0 ps small quiet bytes one
      (λ k d e. let next : nth + suc k ≡ nth + 1 + k = omega arith in subst (λ (j : ℕ). IsCallAt (limits_of g) q.text j d) next (calls (suc k) d e)) there.server in
      let later : RequestResult S = answers_by answering q (nth + 1) here.messages here.server ps in
      let later_there = answers q.now q.connection (number + 1) (server_answer t q.now p).0 ps in
      let goes : here.state ≡ Finished = ap (λ (x : Served). x.state) served in
      let sent : here.messages ≡ messages + length (message_of reply) = ap (λ (x : Served). messages + length (message_of x.message)) served in
      let entry : Entry = entry_for q.now q.connection number p reply in
      let count : length (messages_of (entries_of (entry_events entry ++ later_there.1))) ≡ length (message_of reply) + length (messages_of (entries_of later_there.1)) =
      ap (λ (es : List Entry). length (messages_of es)) (entries_answered entry later_there.1) ∙ length-append (message_of reply) (messages_of (entries_of later_there.1)) in
      subst (λ (x : EndState). AnswersAlike R messages (on_with here later x) (answers q.now q.connection number t (p ∷ ps))) (sym goes)
      (record {
        server = rest.server;
        events = ap (λ (es : List Event). es ++ later.events) happened ∙ ap (λ (es : List Event). entry_events entry ++ es) rest.events;
        messages_are = omega (arith, rest.messages_are, sent, count);
        finished = rest.finished;
      })

  -- a connection takes a request
  took : (s : StateOf S) (t : State) (c : ℕ) (seat : Seat) (size : ℕ) (m : Meaning) (calls : List Placed) → calls ≡ calls_of g.buckets m → IsFedBytes seat → All (λ b. b < 256) (take size (waiting seat)) →
      ((k : ℕ) (p : Placed) → slice_get calls k ≡ Some p → IsCallAt (limits_of g) (take size (waiting seat)) k p) → Alike R g s t → s.clock ≡ t.clock →
      AnswersAlike R 0 (answers_by answering (asking_at s.clock s.plans c seat size) 0 0 s.server calls) (answers s.clock c seat.entered t.server calls)
  took s t c seat size m calls are fed bytes each a same =
      answers_alike (asking_at s.clock s.plans c seat size) 0 0 seat.entered s.server t.server calls (omega (arith, same, a.small)) a.plans bytes (omega arith)
      (λ k p e. let zero_more : k ≡ 0 + k = omega arith in subst (λ (j : ℕ). IsCallAt (limits_of g) (take size (waiting seat)) j p) zero_more (each k p e)) a.server

  module _ (asks : AsksCalls g) where
    takes_alike : (s : StateOf S) (t : State) (c : ℕ) (seat : Seat) (size : ℕ) (m : Meaning) → IsFedBytes seat → next_request (limits_of g) seat ≡ Some (size, m) → Alike R g s t
        → WentAlike R g (takes_request_by answering s c seat size m) (takes_request t c seat size m)
    takes_alike s t c seat size m fed e a =
        let n = asks seat size m fed e in
        let closes : Bool = ends_connection m in
        let left_calls : List Placed = calls_of s.geometry.buckets m in
        let right_calls : List Placed = calls_of t.geometry.buckets m in
        let left_are : left_calls ≡ calls_of g.buckets m = ap (λ (x : Geometry). calls_of x.buckets m) a.left in
        let right_are : right_calls ≡ left_calls = ap (λ (x : Geometry). calls_of x.buckets m) a.right ∙ sym left_are in
        let x = answers_by answering (asking_at s.clock s.plans c seat size) 0 0 s.server left_calls in
        let y = answers t.clock c seat.entered t.server right_calls in
        let plain : answers s.clock c seat.entered t.server left_calls ≡ y =
        ap (λ (now : ℕ). answers now c seat.entered t.server left_calls) a.clock ∙ ap (λ (ps : List Placed). answers t.clock c seat.entered t.server ps) (sym right_are) in
        let h : AnswersAlike R 0 x y =
        subst (AnswersAlike R 0 x) plain
        (took s t c seat size m left_calls left_are fed n.0 (λ k p f. n.1 k p (ap (λ (ps : List Placed). slice_get ps k) (sym left_are) ∙ f)) a a.clock) in
        let count : x.messages ≡ length (messages_of (entries_of y.1)) = omega (arith, h.messages_are) in
        let new : Seat = taken_more seat size (length right_calls) (length (messages_of (entries_of y.1))) closes in
        let seat_is : seat_for x.state seat size (length left_calls) x.messages closes ≡ new =
        ap (λ (state : EndState). seat_for state seat size (length left_calls) x.messages closes) h.finished
        ∙ ap (λ (k : ℕ). taken_more seat size (length left_calls) k closes) count
        ∙ ap (λ (ps : List Placed). taken_more seat size (length ps) (length (messages_of (entries_of y.1))) closes) (sym right_are) in
        record {
          state = record {
            left = a.left;
            right = a.right;
            server = h.server;
            seats = ap (λ (seats : List Seat). slice_set seats c (seat_for x.state seat size (length left_calls) x.messages closes)) a.seats ∙ ap (slice_set t.seats c) seat_is;
            bytes = All-set IsFedBytes t.seats c new fed a.bytes;
            clock = a.clock;
            small = a.small;
            plans = a.plans;
            goes = ap is_abort h.finished;
            right_goes = a.right_goes;
          };
          events = ap (λ (es : List Event). es ++ closing_events x.state c closes) h.events ∙ ap (λ (state : EndState). y.1 ++ closing_events state c closes) h.finished;
          went = refl;
        }

    step_front_alike : (s : StateOf S) (t : State) (c : ℕ) (seat : Seat) (o : Option (ℕ × Meaning)) → IsFedBytes seat → next_request (limits_of g) seat ≡ o → Alike R g s t
        → WentAlike R g (step_front_by answering s c seat o) (step_front t c seat o)
    step_front_alike s t c seat None fed e a = idle_alike R g s t a
    step_front_alike s t c seat (Some request) fed e a = takes_alike s t c seat request.0 request.1 fed e a

    step_alike : (s : StateOf S) (t : State) (c : ℕ) → Alike R g s t → WentAlike R g (step_by answering s c) (step t c)
    step_alike s t c a =
        let seat : Seat = seat_at t c in
        went_same R g _ _ _ _
        (ap (λ (b : Bool). if b then idle s else step_front_by answering s c (seat_at s c) (next_request (limits_of s.geometry) (seat_at s c))) a.goes
        ∙ ap (λ (seats : List Seat). step_front_by answering s c (slice_index_or seats c empty_seat) (next_request (limits_of s.geometry) (slice_index_or seats c empty_seat))) a.seats
        ∙ ap (λ (x : Geometry). step_front_by answering s c seat (next_request (limits_of x) seat)) a.left)
        (ap (λ (x : Geometry). step_front t c seat (next_request (limits_of x) seat)) a.right)
        (step_front_alike s t c seat (next_request (limits_of g) seat) (fed_at t.seats c a.bytes) refl a)

    round_from_alike : (count c : ℕ) (s : StateOf S) (t : State) → Alike R g s t → WentAlike R g (round_from_by (step_by answering) count c s) (round_from_by step count c t)
    round_from_alike zero c s t a = idle_alike R g s t a
    round_from_alike (suc count) c s t a =
        behind_alike R g (step_by answering s c) (step t c) (round_from_by (step_by answering) count (c + 1)) (round_from_by step count (c + 1)) (step_alike s t c a) (round_from_alike count (c + 1))

    round_alike : (s : StateOf S) (t : State) → Alike R g s t → WentAlike R g (round_by (step_by answering) s) (round_by step t)
    round_alike s t a =
        went_same R g _ _ _ _ (ap (λ (seats : List Seat). round_from_by (step_by answering) (length seats) 0 s) a.seats) refl (round_from_alike (length t.seats) 0 s t a)

    rounds_if : (m : ℕ) (s : StateOf S) (t : State) (going : Bool) → WentAlike R g (round_by (step_by answering) s) (round_by step t)
        → ((s : StateOf S) (t : State) → Alike R g s t → WentAlike R g (rounds_by (step_by answering) m s) (rounds_by step m t))
        → WentAlike R g (if going then behind (round_by (step_by answering) s) (rounds_by (step_by answering) m) else round_by (step_by answering) s) (if going then behind (round_by step t) (rounds_by step m) else round_by step t)
    rounds_if m s t true a next = behind_alike R g (round_by (step_by answering) s) (round_by step t) (rounds_by (step_by answering) m) (rounds_by step m) a next
    rounds_if m s t false a next = a

    rounds_alike : (m : ℕ) (s : StateOf S) (t : State) → Alike R g s t → WentAlike R g (rounds_by (step_by answering) m s) (rounds_by step m t)
    rounds_alike zero s t a = idle_alike R g s t a
    rounds_alike (suc m) s t a =
        let r : WentAlike R g (round_by (step_by answering) s) (round_by step t) = round_alike s t a in
        went_same R g _ _ _ _ (ap (λ (b : Bool). if b then behind (round_by (step_by answering) s) (rounds_by (step_by answering) m) else round_by (step_by answering) s) r.went) refl
        (rounds_if m s t (round_by step t).went r (rounds_alike m))

    fed_alike : (s : StateOf S) (t : State) (c : ℕ) (bytes : List ℕ) → All (λ b. b < 256) bytes → Alike R g s t → WentAlike R g (idle (fed s c bytes)) (idle (fed t c bytes))
    fed_alike s t c bytes h a =
        let seat : Seat = seat_at t c in
        let fed_more_at : List Seat → List Seat = λ seats. slice_set seats c (fed_more (slice_index_or seats c empty_seat) bytes) in
        idle_alike R g (record s { seats = fed_more_at s.seats }) (record t { seats = fed_more_at t.seats })
        (record {
          left = a.left;
          right = a.right;
          server = a.server;
          seats = ap fed_more_at a.seats;
          bytes = All-set IsFedBytes t.seats c (fed_more seat bytes) (All-append (λ b. b < 256) seat.fed bytes (fed_at t.seats c a.bytes) h) a.bytes;
          clock = a.clock;
          small = a.small;
          plans = a.plans;
          goes = a.goes;
          right_goes = a.right_goes;
        })

    done_alike : (s : StateOf S) (t : State) (does : Effect) → DoesBytes does → Alike R g s t → WentAlike R g (done_by (step_by answering) s does) (done_by step t does)
    done_alike s t (Opens c mode) h a =
        idle_alike R g (record s { seats = s.seats ++ empty_seat ∷ [] }) (record t { seats = t.seats ++ empty_seat ∷ [] })
        (record {
          left = a.left;
          right = a.right;
          server = a.server;
          seats = ap (λ (seats : List Seat). seats ++ empty_seat ∷ []) a.seats;
          bytes = All-push IsFedBytes t.seats empty_seat a.bytes (All-nil (λ b. b < 256));
          clock = a.clock;
          small = a.small;
          plans = a.plans;
          goes = a.goes;
          right_goes = a.right_goes;
        })
    done_alike s t (Feeds c bytes) h a = fed_alike s t c bytes h a
    done_alike s t Serves h a =
        went_same R g _ _ _ _ (ap (λ (seats : List Seat). rounds_by (step_by answering) (bytes_waiting seats + 1) s) a.seats) refl (rounds_alike (bytes_waiting t.seats + 1) s t a)
    done_alike s t (SetsClock now) h a =
        idle_alike R g (record s { clock = now }) (record t { clock = now })
        (record { left = a.left; right = a.right; server = a.server; seats = a.seats; bytes = a.bytes; clock = refl; small = h; plans = a.plans; goes = a.goes; right_goes = a.right_goes })
    done_alike s t other h a = idle_alike R g s t a

    led_alike : (s : StateOf S) (t : State) (line : ScriptLine) → SaysBytes line → Alike R g s t → WentAlike R g (led_by (step_by answering) s line) (led_by step t line)
    unfolding led_by
    led_alike s t line h a = done_alike s t (effect_of line) h a

    run_from_alike : (t : ToldOf S) (u : Told) (script : List ScriptLine) → All SaysBytes script → ToldAlike R g t u → ToldAlike R g (run_from_by (step_by answering) t script) (run_from_by step u script)
    run_from_alike t u [] h a = a
    run_from_alike t u (line ∷ script) h a =
        let w : WentAlike R g (led_by (step_by answering) t.state line) (led_by step u.state line) = led_alike t.state u.state line (All-head SaysBytes line script h) a.state in
        run_from_alike (after_by (step_by answering) t line) (after_by step u line) script (All-tail SaysBytes line script h)
        (record {
          state = w.state;
          events = ap (λ (es : List Event). es ++ (led_by (step_by answering) t.state line).events) a.events ∙ ap (λ (es : List Event). u.events ++ es) w.events;
        })

-- a quiet script plans nothing
both : (a b : Bool) → (a && b) ≡ true → (a ≡ true) × (b ≡ true)
both true b e = (refl, e)
both false b e = cc

plans_none : (does : Effect) → is_quiet_effect does ≡ true → plans_by [] does ≡ []
plans_none (PlansFault c t plan) e = cc
plans_none other e = refl

pub plans_nothing : (script : List ScriptLine) → list_all is_quiet_line script ≡ true → plans_from [] script ≡ []
plans_nothing [] e = refl
plans_nothing (line ∷ script) e =
    let quiet : (is_quiet_line line ≡ true) × (list_all is_quiet_line script ≡ true) = both (is_quiet_line line) (list_all is_quiet_line script) e in
    ap (λ (plans : List (CallNumber × Planned)). plans_from plans script) (plans_none (effect_of line) quiet.0) ∙ plans_nothing script quiet.1

module _ {S : Type 0} (answering : Answering S) (R : S → Server → Type 0) (script : List ScriptLine) (isolates : IsolatesFaults answering (geometry_of script) R) (says : All SaysBytes script) (asks : AsksCalls (geometry_of script))
    (quiet : is_quiet script ≡ true) (s : S) (t : Server) (r : R s t) where
  -- the run of a quiet script that says bytes has the same events and leaves the same connections
  pub run_same : ToldAlike R (geometry_of script) (run_by (step_by answering) s script) (run_by step t script)
  run_same =
      run_from_alike answering (geometry_of script) R isolates asks (start_of s script) (start_of t script) script says
      (record {
        state = record {
          left = refl;
          right = refl;
          server = r;
          seats = refl;
          bytes = All-nil IsFedBytes;
          clock = refl;
          small = omega arith;
          plans = plans_nothing script quiet;
          goes = refl;
          right_goes = refl;
        };
        events = refl;
      })

  -- and so the same report, with the history or without it
  pub report_same : (history : Bool) → report_of history (run_by (step_by answering) s script) ≡ report_of history (run_by step t script)
  report_same history =
      let a = run_same in
      ap (λ (es : List Event). events_text history es ++ closing_text (run_by (step_by answering) s script).state) a.events
      ∙ ap (λ (seats : List Seat). events_text history (run_by step t script).events ++ (seats_text 0 seats ++ end_text (run_by (step_by answering) s script).state.aborted)) a.state.seats
      ∙ ap (λ (b : Bool). events_text history (run_by step t script).events ++ (seats_text 0 (run_by step t script).state.seats ++ end_text b)) (a.state.goes ∙ sym a.state.right_goes)
