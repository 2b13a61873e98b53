-- What the words of a command line ask for.
use Rattle.std.specs.Prelude.{◌≡◌, ℕ, Bool, false, List, [], ◌∷◌, codes}
use Rattle.std.specs.Str.{bytes_eq}
use Rattle.std.specs.Io.KnownBytes.{append_known}
use Rattle.std.specs.declared.option.Option.{Option}
use Rattle.sei_outside.specs.Bytes.{WrotePart}
use Rattle.sei_main.specs.declared.status.Status.{Status}
use Rattle.sei_main.specs.declared.status.Status.TheVariants.{Ok, Usage, Script, Aborted, ReadFault, WriteFault, Memory, NetFault, JournalFull, JournalFault}

-- the one form so far: the word `replay` alone
abbrev pub is_replay : List (List ℕ) → Bool
is_replay [] = false
is_replay (word ∷ []) = bytes_eq word (codes "replay")
is_replay (word ∷ next ∷ words) = false

abbrev pub usage_text : List ℕ
usage_text =
    codes "usage: replay [history] | trial <number> <connections> <requests> <faults> | serve <buckets> <slots> <value words> <workers> <journal bytes>\n"

-- the usage line was written, or a write failed
abbrev pub UsageWritten : Option (List ℕ) → Option (List ℕ) → Status → Type 0
UsageWritten old new Usage = new ≡ append_known old usage_text
UsageWritten old new WriteFault = WrotePart old new usage_text
UsageWritten old new Ok = ⊥
UsageWritten old new (Script line why) = ⊥
UsageWritten old new Aborted = ⊥
UsageWritten old new ReadFault = ⊥
UsageWritten old new Memory = ⊥
UsageWritten old new NetFault = ⊥
UsageWritten old new JournalFull = ⊥
UsageWritten old new JournalFault = ⊥
