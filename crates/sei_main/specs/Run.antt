-- The run of a script.
use Rattle.std.specs.Prelude.{false, List, [], ◌∷◌}
use Rattle.mc_model.specs.Server.{empty_server}
use Rattle.sei_script.specs.declared.line.ScriptLine.{ScriptLine}
use Rattle.sei_script.specs.Context.{geometry_of}
use Rattle.sei_main.specs.Plans.{plans_of}
use Rattle.sei_main.specs.State.{Stepping, ToldOf, Told, told, led_by, step}
use Rattle.sei_main.specs.Serving.{step_by}
use Rattle.sei_main.specs.Tables.{Tables, fresh_tables}
use Rattle.sei_main.specs.TableAnswers.{table_answering}

-- a server that was asked nothing yet, of the script's geometry, no connection, the clock at 0, and the planned faults
abbrev pub start_of : {S : Type 0} → S → List ScriptLine → ToldOf S
start_of server script = record {
  state = record { geometry = geometry_of script; server = server; seats = []; clock = 0; plans = plans_of script; aborted = false };
  events = [];
}

module _ {S : Type 0} (stepping : Stepping S) where
  abbrev pub after_by : ToldOf S → ScriptLine → ToldOf S
  after_by t line = told t (led_by stepping t.state line)

  abbrev pub run_from_by : ToldOf S → List ScriptLine → ToldOf S
  run_from_by t [] = t
  run_from_by t (line ∷ lines) = run_from_by (after_by t line) lines

  -- the run of a script on this server
  abbrev pub run_by : S → List ScriptLine → ToldOf S
  run_by server script = run_from_by (start_of server script) script

-- the run of a script: with its planned faults, on a server as words
abbrev pub run_of : List ScriptLine → ToldOf Tables
run_of script = run_by (step_by table_answering) (fresh_tables (geometry_of script)) script

-- and on the plain server, which is empty at the start, and knows no faults
abbrev pub plain_start : List ScriptLine → Told
plain_start script = start_of (empty_server (geometry_of script)) script

abbrev pub plain_after : Told → ScriptLine → Told
plain_after = after_by step

abbrev pub plain_run_from : Told → List ScriptLine → Told
plain_run_from = run_from_by step

abbrev pub plain_run_of : List ScriptLine → Told
plain_run_of script = run_by step (empty_server (geometry_of script)) script
