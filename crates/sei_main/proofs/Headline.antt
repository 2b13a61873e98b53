-- What a status says of the run, from what it says of the input alone.
use Rattle.std.proofs.Common.{◌≡◌, ℕ, ◌<◌, Bool, true, false, List, [], refl, ap, sym, subst, Option, Some, None}
use Rattle.std.specs.Prelude.{IfSome, All}
use Rattle.std.specs.Io.KnownBytes.{append_known}
use Rattle.std.proofs.lemmas.List.{append-nil}
use Rattle.sei_outside.specs.Bytes.{WrotePart}
use Rattle.sei_outside.proofs.Public.{wrote_nothing}
use Rattle.sei_script.specs.declared.line.ScriptLine.{ScriptLine}
use Rattle.sei_script.specs.Limits.{script_limit}
use Rattle.sei_script.specs.Reading.{Reading, Reads, Fails}
use Rattle.sei_script.proofs.Public.{reads_bytes}
use Rattle.sei_main.specs.Answers.{StatusSays, OnScript, OnInput, IfReads, IfScript, WrotePlainPart, output_of, HasRun, IsDecided, RanTo, end_status, is_aborted, reading_in}
use Rattle.sei_main.specs.Headline.{WhenQuiet}
use Rattle.sei_main.specs.declared.status.Status.{Status}
use Rattle.sei_main.specs.declared.status.Status.TheVariants.{Ok, Usage, Script, Aborted, ReadFault, WriteFault, Memory, NetFault, JournalFull, JournalFault}
use Rattle.sei_main.proofs.Laws.{IsRunnable}
use Rattle.sei_main.proofs.Runnable.{reads_runnable}
use Rattle.sei_main.proofs.TableRuns.{plain_run}

on_script : (r : Reading) (P Q : List ScriptLine → Type 0) → ((script : List ScriptLine) → r ≡ Reads script → Q script → P script) → OnScript r Q → OnScript r P
on_script (Reads script) P Q law h = law script refl h
on_script (Fails line why) P Q law h = absurd h

-- a law of scripts that read and were run to their end
abbrev pub IsLaw : (List ScriptLine → Type 0) → Type 0
IsLaw P = (script : List ScriptLine) → IsRunnable script → P script

of_script : (aborted : Bool) (P : List ScriptLine → Type 0) → ((script : List ScriptLine) → IsRunnable script → is_aborted script ≡ aborted → P script) → (input : List ℕ) → OnScript (reading_in input) (RanTo aborted)
    → OnScript (reading_in input) P
of_script aborted P law input h = on_script (reading_in input) P (RanTo aborted) (λ script e ran. law script (reads_runnable input script e ran.0) ran.1) h

by_status : (P : List ScriptLine → Type 0) → IsLaw P → (h : Bool) (input : List ℕ) (old new : Option (List ℕ)) (status : Status) → StatusSays h (reading_in input) old new status → HasRun status → OnScript (reading_in input) P
by_status P law h input old new Ok a ran = of_script false P (λ script r aborted. law script r) input a.0
by_status P law h input old new Aborted a ran = of_script true P (λ script r aborted. law script r) input a.0
by_status P law h input old new Usage a ran = absurd ran
by_status P law h input old new (Script line why) a ran = absurd ran
by_status P law h input old new ReadFault a ran = absurd ran
by_status P law h input old new WriteFault a ran = absurd ran
by_status P law h input old new Memory a ran = absurd ran
by_status P law h input old new NetFault a ran = absurd ran
by_status P law h input old new JournalFull a ran = absurd ran
by_status P law h input old new JournalFault a ran = absurd ran

-- holds of the script that was run, with an abort or without one
pub law_of : (P : List ScriptLine → Type 0) → IsLaw P → (h : Bool) (left old new : Option (List ℕ)) (status : Status)
    → IfSome left (λ input. StatusSays h (reading_in input) old new status) → HasRun status → OnInput left P
law_of P law h None old new status a ran = tt
law_of P law h (Some input) old new status a ran = by_status P law h input old new status a ran

-- and of the script that an Aborted has read
pub law_of_aborted : (P : List ScriptLine → Type 0) → ((script : List ScriptLine) → IsRunnable script → is_aborted script ≡ true → P script) → (h : Bool) (left old new : Option (List ℕ)) (status : Status)
    → IfSome left (λ input. StatusSays h (reading_in input) old new status) → status ≡ Aborted → OnInput left P
law_of_aborted P law h None old new status a e = tt
law_of_aborted P law h (Some input) old new status a e = of_script true P law input (subst (λ (s : Status). StatusSays h (reading_in input) old new s) e a).0

decided_by : (r : Reading) (h : Bool) (old new : Option (List ℕ)) (status : Status) → (status ≡ ReadFault → ⊥) → (status ≡ WriteFault → ⊥) → StatusSays h r old new status → IsDecided r status
decided_by (Reads script) h old new Ok read write a = ap end_status (sym a.0.1)
decided_by (Reads script) h old new Aborted read write a = ap end_status (sym a.0.1)
decided_by (Reads script) h old new Memory read write a = tt
decided_by (Reads script) h old new Usage read write a = absurd a
decided_by (Reads script) h old new (Script line why) read write a = let e : Reads script ≡ Fails line why = a.0 in cc
decided_by (Reads script) h old new ReadFault read write a = absurd (read refl)
decided_by (Reads script) h old new WriteFault read write a = absurd (write refl)
decided_by (Reads script) h old new NetFault read write a = absurd a
decided_by (Reads script) h old new JournalFull read write a = absurd a
decided_by (Reads script) h old new JournalFault read write a = absurd a
decided_by (Fails line why) h old new Ok read write a = absurd a.0
decided_by (Fails line why) h old new Memory read write a = tt
decided_by (Fails line why) h old new Usage read write a = absurd a
decided_by (Fails line why) h old new (Script n w) read write a = let e : Fails line why ≡ Fails n w = a.0 in cc
decided_by (Fails line why) h old new ReadFault read write a = absurd (read refl)
decided_by (Fails line why) h old new WriteFault read write a = absurd (write refl)
decided_by (Fails line why) h old new Aborted read write a = absurd a.0
decided_by (Fails line why) h old new NetFault read write a = absurd a
decided_by (Fails line why) h old new JournalFull read write a = absurd a
decided_by (Fails line why) h old new JournalFault read write a = absurd a

-- without a fault the text decides
pub complete : (h : Bool) (left old new : Option (List ℕ)) (status : Status) → (status ≡ ReadFault → ⊥) → (status ≡ WriteFault → ⊥)
    → IfSome left (λ input. StatusSays h (reading_in input) old new status) → IfSome left (λ input. IsDecided (reading_in input) status)
complete h None old new status read write a = tt
complete h (Some input) old new status read write a = decided_by (reading_in input) h old new status read write a

whole : (old new : Option (List ℕ)) (bytes : List ℕ) → new ≡ append_known old bytes → WrotePart old new bytes
whole old new bytes e = record { part = bytes; rest = []; split = append-nil bytes; now = e }

-- at any end a first part of what was to be written was written
part_of : (h : Bool) (r : Reading) (old new : Option (List ℕ)) (status : Status) → StatusSays h r old new status → WrotePart old new (output_of h r)
part_of h r old new Ok a = whole old new (output_of h r) a.1
part_of h r old new Aborted a = whole old new (output_of h r) a.1
part_of h r old new (Script line why) a = whole old new (output_of h r) a.1
part_of h r old new ReadFault a = subst (λ (x : Option (List ℕ)). WrotePart old x (output_of h r)) (sym a) (wrote_nothing old (output_of h r))
part_of h r old new WriteFault a = a
part_of h r old new Memory a = a
part_of h r old new Usage a = absurd a
part_of h r old new NetFault a = absurd a
part_of h r old new JournalFull a = absurd a
part_of h r old new JournalFault a = absurd a

plain_part : (h : Bool) (input : List ℕ) (old new : Option (List ℕ)) (script : List ScriptLine) → All (λ b. b < 256) input → reading_in input ≡ Reads script → WrotePart old new (output_of h (reading_in input))
    → WhenQuiet (WrotePlainPart h old new) script
plain_part h input old new script bytes e part quiet =
    let r = reads_runnable input script e (reads_bytes script_limit input script bytes e) in
    subst (λ (text : List ℕ). WrotePart old new text) (plain_run h script r.valid r.says quiet).report (subst (λ (x : Reading). WrotePart old new (output_of h x)) e part)

if_reads : (r : Reading) (P : List ScriptLine → Type 0) → ((script : List ScriptLine) → r ≡ Reads script → P script) → IfReads r P
if_reads (Reads script) P law = law script refl
if_reads (Fails line why) P law = tt

-- and of a quiet script a first part of the plain server's report
pub quiet_part : (h : Bool) (left old new : Option (List ℕ)) (status : Status) → IfSome left (λ input. StatusSays h (reading_in input) old new status) → IfScript left (WhenQuiet (WrotePlainPart h old new))
quiet_part h None old new status a = tt
quiet_part h (Some input) old new status a = λ bytes.
    if_reads (reading_in input) (WhenQuiet (WrotePlainPart h old new)) (λ script e. plain_part h input old new script bytes e (part_of h (reading_in input) old new status a))
