-- What is claimed of the run of a script.
use Rattle.std.specs.Prelude.{◌≡◌, ℕ, Bool, true, false, List, [], length, All, ◌==◌, if◌then◌else◌}
use Rattle.std.specs.List.{flat_map}
use Rattle.mc_text.specs.Stream.{Takes, own_calls, own_requests, IsPrefixOf}
use Rattle.sei_script.specs.declared.line.ScriptLine.{ScriptLine}
use Rattle.sei_script.specs.Effects.{Effect, Feeds, effect_of}
use Rattle.sei_script.specs.Context.{geometry_of}
use Rattle.sei_main.specs.Quiet.{is_quiet, ends_in_drain}
use Rattle.mc_text.specs.declared.limits.Limits.{Limits}
use Rattle.sei_main.specs.History.{Entry, IsLegal}
use Rattle.sei_main.specs.Own.{own_entries, calls_in, messages_of, accepted_of, IsNumbered}
use Rattle.sei_main.specs.Events.{entries_of, sent_to}
use Rattle.sei_main.specs.Ends.{has_abort, NothingAfterAbort, IsOfStruck}
use Rattle.sei_main.specs.Seats.{waiting}
use Rattle.sei_main.specs.State.{limits_of, seat_at}
use Rattle.sei_main.specs.Run.{plain_run_of, run_of}
use Rattle.sei_main.specs.Report.{report_of}

abbrev pub fed_in : ℕ → Effect → List ℕ
fed_in c (Feeds d bytes) = if d == c then bytes else []
fed_in c other = []

-- the bytes that a line feeds to connection c
abbrev pub fed_by : ℕ → ScriptLine → List ℕ
fed_by c line = fed_in c (effect_of line)

-- all bytes that a script feeds to a connection
abbrev pub fed_to : ℕ → List ScriptLine → List ℕ
fed_to c script = flat_map (fed_by c) script

-- the limits of its requests
abbrev pub script_limits : List ScriptLine → Limits
script_limits script = limits_of (geometry_of script)

-- the run with the planned faults

-- its history
abbrev pub history_of : List ScriptLine → List Entry
history_of script = entries_of (run_of script).events

-- the history is legal
abbrev pub IsLegalRun : List ScriptLine → Type 0
IsLegalRun script = IsLegal (geometry_of script) (history_of script)

-- the entries of each connection are numbered, and their calls are the first of those that the script feeds to it
abbrev pub IsNumberedRun : List ScriptLine → Type 0
IsNumberedRun script = (c : ℕ) → IsNumbered (script_limits script) (fed_to c script) (own_entries c (history_of script))

-- connection c was sent the messages of its first entries, and what its peer accepts of them is counted
pub record SendsReplies (script : List ScriptLine) (c : ℕ) : Type 0 where
  pub answered : List Entry
  pub first : IsPrefixOf answered (own_entries c (history_of script))
  pub sent : sent_to c (run_of script).events ≡ messages_of answered
  pub took : (seat_at (run_of script).state c).sent ≡ length (accepted_of (sent_to c (run_of script).events))

-- this of each connection
abbrev pub SendsRepliesRun : List ScriptLine → Type 0
SendsRepliesRun script = (c : ℕ) → SendsReplies script c

-- the run has an abort exactly where an event is one, and no event stands behind it
pub record NothingAfterAbortRun (script : List ScriptLine) : Type 0 where
  pub told : (run_of script).state.aborted ≡ has_abort (run_of script).events
  pub last : NothingAfterAbort (run_of script).events

-- only what was struck is refused or aborted
abbrev pub OnlyStruckAbortsRun : List ScriptLine → Type 0
OnlyStruckAbortsRun script = All IsOfStruck (run_of script).events

-- a fault is planned
abbrev pub PlansFault : List ScriptLine → Type 0
PlansFault script = is_quiet script ≡ false

-- what is claimed of quiet scripts
abbrev pub WhenQuiet : (List ScriptLine → Type 0) → List ScriptLine → Type 0
WhenQuiet P script = is_quiet script ≡ true → P script

-- the run is that of the plain server: it has no abort, the same events, and the same report
pub record IsPlain (history : Bool) (script : List ScriptLine) : Type 0 where
  pub goes : (run_of script).state.aborted ≡ false
  pub events : (run_of script).events ≡ (plain_run_of script).events
  pub report : report_of history (run_of script) ≡ report_of history (plain_run_of script)

-- every call of connection c was answered, every reply was sent, and what waits is what no request of it took
pub record AnswersAll (script : List ScriptLine) (c : ℕ) : Type 0 where
  pub calls : calls_in (own_entries c (history_of script)) ≡ own_calls (script_limits script) (fed_to c script)
  pub messages : sent_to c (run_of script).events ≡ messages_of (own_entries c (history_of script))
  pub left : Takes (script_limits script) (fed_to c script) (own_requests (script_limits script) (fed_to c script)) (waiting (seat_at (run_of script).state c))

-- this of each connection, if the script is quiet and ends in `drain`
abbrev pub AnswersAllRun : List ScriptLine → Type 0
AnswersAllRun script = is_quiet script ≡ true → ends_in_drain script ≡ true → (c : ℕ) → AnswersAll script c
