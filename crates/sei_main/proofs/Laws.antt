-- The laws of a run with planned faults.
use Rattle.std.proofs.Common.{◌≡◌, ℕ, Bool, true, false, List, [], ◌++◌, length, refl, ap, sym, ◌∙◌, subst, arith, None}
use Rattle.std.specs.Prelude.{if◌then◌else◌, All, slice_index_or}
use Rattle.std.specs.List.{flat_map}
use Rattle.std.proofs.lemmas.List.{append-nil}
use Rattle.mc_model.specs.declared.geometry.Geometry.{Geometry}
use Rattle.mc_model.specs.Server.{IsValid}
use Rattle.mc_text.specs.declared.limits.Limits.{Limits}
use Rattle.mc_text.specs.Meaning.{Meaning, calls_of}
use Rattle.mc_text.specs.Front.{front}
use Rattle.mc_text.specs.Stream.{Takes, requests, up_to_end, own_requests}
use Rattle.mc_text.proofs.Public.{no_requests, takes_requests}
use Rattle.sei_fault.specs.declared.plan.Planned.{Planned}
use Rattle.sei_script.specs.declared.line.ScriptLine.{ScriptLine}
use Rattle.sei_script.specs.Context.{empty_context, geometry_of}
use Rattle.sei_script.specs.Fit.{AreFit}
use Rattle.sei_script.specs.SaysBytes.{SaysBytes}
use Rattle.sei_main.specs.declared.plans.CallNumber.{CallNumber}
use Rattle.sei_main.specs.History.{Entry}
use Rattle.sei_main.specs.Own.{own_entries, calls_in}
use Rattle.sei_main.specs.Ends.{has_abort}
use Rattle.sei_main.specs.Events.{sent_to}
use Rattle.sei_main.specs.Plans.{plans_of}
use Rattle.sei_main.specs.Seats.{Seat, empty_seat, waiting}
use Rattle.sei_main.specs.State.{State, limits_of, next_request, seat_at}
use Rattle.sei_main.specs.TableAnswers.{table_answering}
use Rattle.sei_main.specs.Tables.{fresh_tables}
use Rattle.sei_main.specs.Run.{plain_start, plain_run_of, run_of}
use Rattle.sei_main.specs.Headline.{fed_to, script_limits, history_of, IsLegalRun, IsNumberedRun, SendsRepliesRun, NothingAfterAbortRun, OnlyStruckAbortsRun, AnswersAllRun}
use Rattle.sei_main.proofs.Drained.{nothing_waits, drain_ends}
use Rattle.sei_main.proofs.Kept.{Kept}
use Rattle.sei_main.proofs.KeptRun.{run_keeps}
use Rattle.sei_main.proofs.KeptSeat.{SeatKept}
use Rattle.sei_main.proofs.SeatStands.{SeatStands, SentStands, numbered_stands, sent_stands, unstopped, calls_split}
use Rattle.sei_main.proofs.Simulated.{plans_nothing}
use Rattle.sei_main.specs.Tables.{AreServerOf}
use Rattle.sei_main.proofs.TableLaws.{fresh_are_server}
use Rattle.sei_main.proofs.TableRuns.{RunIsPlain, tables_isolate, asks_calls, run_is_plain}

-- a script that may be run
pub record IsRunnable (script : List ScriptLine) : Type 0 where
  pub fit : AreFit empty_context script
  pub valid : IsValid (geometry_of script)
  pub says : All SaysBytes script

kept : (script : List ScriptLine) → IsRunnable script → Kept (AreServerOf (geometry_of script)) (geometry_of script) (plans_of script) (λ c. fed_to c script) (run_of script)
kept script r =
    let g : Geometry = geometry_of script in
    run_keeps table_answering (AreServerOf g) (fresh_tables g) script empty_context (tables_isolate g r.valid) (asks_calls g r.valid) (omega (arith, r.valid.some_buckets)) (fresh_are_server g r.valid) r.says refl r.fit

seat_stands : (script : List ScriptLine) → IsRunnable script → (c : ℕ)
    → SeatStands (length (plans_of script)) (script_limits script) (fed_to c script) (own_entries c (history_of script)) (sent_to c (run_of script).events) (seat_at (run_of script).state c)
seat_stands script r c = (kept script r).seats c

pub legal : (script : List ScriptLine) → IsRunnable script → IsLegalRun script
legal script r = (kept script r).legal

pub numbered : (script : List ScriptLine) → IsRunnable script → IsNumberedRun script
numbered script r c = numbered_stands (length (plans_of script)) (script_limits script) (fed_to c script) _ _ (seat_at (run_of script).state c) (seat_stands script r c)

pub sent : (script : List ScriptLine) → IsRunnable script → SendsRepliesRun script
sent script r c =
    let s : SentStands (own_entries c (history_of script)) (sent_to c (run_of script).events) (seat_at (run_of script).state c) =
    sent_stands (length (plans_of script)) (script_limits script) (fed_to c script) _ _ (seat_at (run_of script).state c) (seat_stands script r c) in
    record { answered = s.answered; first = s.first; sent = s.sent_is; took = s.took }

pub nothing_after_abort : (script : List ScriptLine) → IsRunnable script → NothingAfterAbortRun script
nothing_after_abort script r =
    let k = kept script r in
    record { told = by (run_of script).state.aborted refl k; last = k.ends.last }
  where
    by : (aborted : Bool) → (run_of script).state.aborted ≡ aborted → Kept (AreServerOf (geometry_of script)) (geometry_of script) (plans_of script) (λ c. fed_to c script) (run_of script)
        → (run_of script).state.aborted ≡ has_abort (run_of script).events
    by true e k = e ∙ sym (k.told e)
    by false e k = e ∙ sym (k.goes e).none

pub only_struck : (script : List ScriptLine) → IsRunnable script → OnlyStruckAbortsRun script
only_struck script r = (kept script r).ends.struck

-- Of a quiet script.

-- nothing waits at a connection that is closed, or that has no whole request
ended : (l : Limits) (seat : Seat) (closed : Bool) → (if closed then None else front l (waiting seat)) ≡ None → (if closed then [] else up_to_end (requests l (waiting seat))) ≡ []
ended l seat true e = refl
ended l seat false e = ap up_to_end (no_requests l (waiting seat) e)

none_empty : (l : Limits) → next_request l empty_seat ≡ None
unfolding front
none_empty l = refl

-- the own requests are those that were answered, and then, at an open connection, what waits
own_split : (l : Limits) (fed : List ℕ) (own : List Entry) (messages : List (List ℕ)) (seat : Seat) → (k : SeatKept l fed own messages seat)
    → own_requests l fed ≡ k.requests ++ (if seat.closed then [] else up_to_end (requests l (waiting seat)))
own_split l fed own messages seat k = ap up_to_end (takes_requests l fed k.requests (waiting seat) k.takes) ∙ k.ends (requests l (waiting seat))

pub all_answered : (script : List ScriptLine) → IsRunnable script → AnswersAllRun script
all_answered script r quiet e c =
    let l : Limits = script_limits script in
    let fed : List ℕ = fed_to c script in
    let own : List Entry = own_entries c (history_of script) in
    let seat : Seat = seat_at (run_of script).state c in
    let k : SeatKept l fed own (sent_to c (run_of script).events) seat =
    unstopped l fed own (sent_to c (run_of script).events) seat
    (subst (λ (plans : List (CallNumber × Planned)). SeatStands (length plans) l fed own (sent_to c (run_of script).events) seat) (plans_nothing script quiet) (seat_stands script r c)) in
    let plain : State = (plain_run_of script).state in
    let p : RunIsPlain script = run_is_plain script r.valid r.says quiet in
    let none : next_request (limits_of plain.geometry) (seat_at plain c) ≡ None = nothing_waits plain (none_empty (limits_of plain.geometry)) (drain_ends (plain_start script) script e) c in
    let here : next_request l seat ≡ None =
    ap (λ (seats : List Seat). next_request l (slice_index_or seats c empty_seat)) p.seats ∙ ap (λ (g : Geometry). next_request (limits_of g) (seat_at plain c)) (sym p.geometry) ∙ none in
    let nothing : (if seat.closed then [] else up_to_end (requests l (waiting seat))) ≡ [] = ended l seat seat.closed here in
    let requests_are : own_requests l fed ≡ k.requests =
    own_split l fed _ _ seat k ∙ ap (λ (x : List Meaning). k.requests ++ x) nothing ∙ append-nil k.requests in
    record {
      calls = sym (calls_split l fed _ _ seat k ∙ ap (λ (x : List Meaning). calls_in own ++ flat_map (calls_of l.buckets) x) nothing ∙ append-nil _);
      messages = k.messages;
      left = subst (λ (ms : List Meaning). Takes l fed ms (waiting seat)) (sym requests_are) k.takes;
    }
