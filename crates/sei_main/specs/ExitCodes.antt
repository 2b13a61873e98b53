-- The exit status of each way in which a run ends.
use Rattle.std.specs.Prelude.{ℕ}
use Rattle.sei_main.specs.declared.status.Status.{Status}
use Rattle.sei_main.specs.declared.status.Status.TheVariants.{Ok, Usage, Script, Aborted, ReadFault, WriteFault, Memory, NetFault, JournalFull, JournalFault}

abbrev pub code_of : Status → ℕ
code_of Ok = 0
code_of Usage = 1
code_of (Script line why) = 2
code_of Aborted = 3
code_of ReadFault = 4
code_of WriteFault = 5
code_of Memory = 6
code_of NetFault = 7
code_of JournalFull = 8
code_of JournalFault = 9
