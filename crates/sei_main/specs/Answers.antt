-- What a replay answers, and what it has written then.
use Rattle.std.specs.Prelude.{◌≡◌, ℕ, ◌<◌, Bool, true, false, List, ⊤, IfSome, All}
use Rattle.std.specs.declared.option.Option.{Option}
use Rattle.std.specs.Io.KnownBytes.{append_known}
use Rattle.sei_outside.specs.Bytes.{WrotePart}
use Rattle.sei_script.specs.SaysBytes.{SaysBytes}
use Rattle.sei_script.specs.Reading.{Reading, Reads, Fails, reading_of}
use Rattle.sei_script.specs.Limits.{script_limit}
use Rattle.sei_script.specs.declared.line.ScriptLine.{ScriptLine}
use Rattle.sei_script.specs.declared.line.Why.{Why}
use Rattle.sei_main.specs.Run.{run_of, plain_run_of}
use Rattle.sei_script.specs.ReportLines.{refusal_text}
use Rattle.sei_main.specs.Report.{report_of}
use Rattle.sei_main.specs.declared.status.Status.{Status}
use Rattle.sei_main.specs.declared.status.Status.TheVariants.{Ok, Usage, Script, Aborted, ReadFault, WriteFault, Memory, NetFault, JournalFull, JournalFault}

-- how the bytes of a source read
abbrev pub reading_in : List ℕ → Reading
reading_in input = reading_of script_limit input

-- what is to be written for a text that reads so
abbrev pub output_of : Bool → Reading → List ℕ
output_of history (Reads script) = report_of history (run_of script)
output_of history (Fails line why) = refusal_text line why

-- the text reads, and this is so of its script
abbrev pub OnScript : Reading → (List ScriptLine → Type 0) → Type 0
OnScript (Reads script) P = P script
OnScript (Fails line why) P = ⊥

-- a fact of the script, where the text reads
abbrev pub IfReads : Reading → (List ScriptLine → Type 0) → Type 0
IfReads (Reads script) P = P script
IfReads (Fails line why) P = ⊤

-- a fact of the script, where the source tells what it holds, and that is bytes and reads
abbrev pub IfScript : Option (List ℕ) → (List ScriptLine → Type 0) → Type 0
IfScript left P = IfSome left (λ input. All (λ b. b < 256) input → IfReads (reading_in input) P)

-- the sink holds a first part of the plain server's report
abbrev pub WrotePlainPart : Bool → Option (List ℕ) → Option (List ℕ) → List ScriptLine → Type 0
WrotePlainPart history old new script = WrotePart old new (report_of history (plain_run_of script))

-- a fact of the script that a source holds, where it tells its bytes
abbrev pub OnInput : Option (List ℕ) → (List ScriptLine → Type 0) → Type 0
OnInput left P = IfSome left (λ input. OnScript (reading_in input) P)

-- whether a traversal of the run is aborted
abbrev pub is_aborted : List ScriptLine → Bool
is_aborted script = (run_of script).state.aborted

-- what is so of a script that was run: it says bytes, and a traversal was aborted or none was
abbrev pub RanTo : Bool → List ScriptLine → Type 0
RanTo aborted script = All SaysBytes script × (is_aborted script ≡ aborted)

-- what each status says of the text, and of what the sink held before and holds now; the others never come
abbrev pub StatusSays : Bool → Reading → Option (List ℕ) → Option (List ℕ) → Status → Type 0
StatusSays history reading old new Ok = OnScript reading (RanTo false) × (new ≡ append_known old (output_of history reading))
StatusSays history reading old new Aborted = OnScript reading (RanTo true) × (new ≡ append_known old (output_of history reading))
StatusSays history reading old new (Script line why) = (reading ≡ Fails line why) × (new ≡ append_known old (output_of history reading))
StatusSays history reading old new ReadFault = new ≡ old
StatusSays history reading old new WriteFault = WrotePart old new (output_of history reading)
StatusSays history reading old new Memory = WrotePart old new (output_of history reading)
StatusSays history reading old new Usage = ⊥
StatusSays history reading old new NetFault = ⊥
StatusSays history reading old new JournalFull = ⊥
StatusSays history reading old new JournalFault = ⊥

-- the statuses that a replay may have
abbrev pub IsReplayStatus : Status → Type 0
IsReplayStatus Ok = ⊤
IsReplayStatus Aborted = ⊤
IsReplayStatus (Script line why) = ⊤
IsReplayStatus ReadFault = ⊤
IsReplayStatus WriteFault = ⊤
IsReplayStatus Memory = ⊤
IsReplayStatus Usage = ⊥
IsReplayStatus NetFault = ⊥
IsReplayStatus JournalFull = ⊥
IsReplayStatus JournalFault = ⊥

-- the statuses of a script that was run to its end
abbrev pub HasRun : Status → Type 0
HasRun Ok = ⊤
HasRun Aborted = ⊤
HasRun (Script line why) = ⊥
HasRun ReadFault = ⊥
HasRun WriteFault = ⊥
HasRun Memory = ⊥
HasRun Usage = ⊥
HasRun NetFault = ⊥
HasRun JournalFull = ⊥
HasRun JournalFault = ⊥

-- how the run of a script ends
abbrev pub end_status : Bool → Status
end_status false = Ok
end_status true = Aborted

-- where no fault comes, the text alone decides, want of memory aside
abbrev pub IsDecided : Reading → Status → Type 0
IsDecided reading Memory = ⊤
IsDecided (Reads script) status = status ≡ end_status (is_aborted script)
IsDecided (Fails line why) status = status ≡ Script line why

-- the same of what a source tells
abbrev pub IsDecidedBy : Option (List ℕ) → Status → Type 0
IsDecidedBy text status = IfSome text (λ input. IsDecided (reading_in input) status)

-- the answers to a text that fails at a line
abbrev pub Refused : Option (List ℕ) → Option (List ℕ) → ℕ → Why → Status → Type 0
Refused old new line why status = StatusSays false (Fails line why) old new status
