-- The run of a quiet script on words is the run of the plain server.
use Rattle.std.proofs.Common.{◌≡◌, Bool, true, false, List, Some, refl, sym, ◌∙◌, arith, subst}
use Rattle.std.specs.Prelude.{All}
use Rattle.mc_model.specs.declared.geometry.Geometry.{Geometry}
use Rattle.mc_model.specs.Server.{IsValid, Server, empty_server}
use Rattle.sei_script.specs.declared.line.ScriptLine.{ScriptLine}
use Rattle.sei_script.specs.Context.{geometry_of}
use Rattle.sei_script.specs.SaysBytes.{SaysBytes}
use Rattle.sei_main.specs.Answers.{is_aborted}
use Rattle.sei_main.specs.Headline.{IsPlain}
use Rattle.sei_main.specs.Quiet.{is_quiet}
use Rattle.sei_main.specs.State.{limits_of}
use Rattle.sei_hand.specs.Requests.{limits_of as call_limits, call_in}
use Rattle.sei_main.specs.Answering.{Asked}
use Rattle.sei_main.specs.Run.{plain_run_of, run_of}
use Rattle.sei_main.specs.Tables.{Tables, fresh_tables}
use Rattle.sei_main.specs.TableAnswers.{table_answering}
use Rattle.sei_main.proofs.SeatBytes.{next_text}
use Rattle.sei_main.specs.Outcomes.{IsAskedOf, IsolatesFaults, CallOutcome}
use Rattle.sei_main.proofs.Outcomes.{AsksCalls}
use Rattle.sei_main.proofs.Simulated.{run_same, report_same}
use Rattle.sei_main.specs.Tables.{AreServerOf}
use Rattle.sei_main.proofs.TableLaws.{fresh_are_server}
use Rattle.sei_main.proofs.TableCalls.{asked_of}
use Rattle.sei_main.proofs.TableOutcomes.{outcome}

-- the calls of each request that waits are those of its text
pub asks_calls : (g : Geometry) → IsValid g → AsksCalls g
asks_calls g valid seat size m fed e =
    let text = next_text (limits_of g) seat size m fed e in
    (text.1, λ k p f. record { some_buckets = omega (arith, valid.some_buckets); meaning = m; spelled = text.0; call = f })

-- a call that is asked of words stands in its text
there : (g : Geometry) → IsValid g → (s : Tables) (t : Server) (a : Asked) → IsAskedOf g a → AreServerOf g s t → call_in (call_limits s.geometry) a.text a.nth ≡ Some a.placed
there g valid s t a asked r = (asked_of g s.geometry a.text a.nth a.placed (sym r.geometry) (subst IsValid (sym r.geometry) valid) asked.bytes asked.call).call

-- words have one of the outcomes for each call
pub tables_isolate : (g : Geometry) → IsValid g → IsolatesFaults table_answering g (AreServerOf g)
tables_isolate g valid s t a asked r =
    subst (λ (y : Geometry). CallOutcome (AreServerOf y) t a (table_answering s a)) r.geometry (outcome s t r.are a asked.bytes asked.small (there g valid s t a asked r))

-- the run of a quiet script has the same events as that of the plain server, and leaves the same connections
pub record RunIsPlain (script : List ScriptLine) : Type 0 where
  pub goes : (run_of script).state.aborted ≡ false
  pub geometry : (plain_run_of script).state.geometry ≡ geometry_of script
  pub seats : (run_of script).state.seats ≡ (plain_run_of script).state.seats
  pub events : (run_of script).events ≡ (plain_run_of script).events

pub run_is_plain : (script : List ScriptLine) → IsValid (geometry_of script) → All SaysBytes script → is_quiet script ≡ true → RunIsPlain script
run_is_plain script valid says quiet =
    let g = geometry_of script in
    let same = run_same table_answering (AreServerOf g) script (tables_isolate g valid) says (asks_calls g valid) quiet (fresh_tables g) (empty_server g) (fresh_are_server g valid) in
    record { goes = same.state.goes; geometry = same.state.right; seats = same.state.seats; events = same.events }

-- so the report is the same, with the history or without it
pub plain_run : (history : Bool) (script : List ScriptLine) → IsValid (geometry_of script) → All SaysBytes script → is_quiet script ≡ true → IsPlain history script
plain_run history script valid says quiet =
    let g = geometry_of script in
    let plain = run_is_plain script valid says quiet in
    record {
      goes = plain.goes;
      events = plain.events;
      report = report_same table_answering (AreServerOf g) script (tables_isolate g valid) says (asks_calls g valid) quiet (fresh_tables g) (empty_server g) (fresh_are_server g valid) history;
    }

-- and a script whose run is aborted plans a fault
pub plans_fault : (script : List ScriptLine) → IsValid (geometry_of script) → All SaysBytes script → is_aborted script ≡ true → is_quiet script ≡ false
plans_fault script valid says aborted = by (is_quiet script) refl
  where
    by : (quiet : Bool) → is_quiet script ≡ quiet → is_quiet script ≡ false
    by true e = let z : false ≡ true = sym (run_is_plain script valid says e).goes ∙ aborted in absurd (let w : ⊥ = cc in w)
    by false e = e
