-- The lines of a report that tell of aborts.
use Rattle.std.specs.Prelude.{ℕ, Bool, true, false, List, ◌++◌, codes}
use Rattle.std.specs.Fmt.{decimal}
use Rattle.sei_fault.specs.declared.place.Phase.{Phase}
use Rattle.sei_fault.specs.declared.place.Phase.TheVariants.{Guard, Take, First, Restore, Second, Compare, Verify, Enter, Give, Send, Done}
use Rattle.sei_fault.specs.declared.cause.AbortCause.{AbortCause}
use Rattle.sei_fault.specs.declared.cause.AbortCause.TheVariants.{Gate, Code, Range, Table, Budget, LogFull, OutFull, Output, Bucket, Notes, Differs, Reply, Wire}

-- the word of a phase, in reports and in scripts
abbrev pub phase_text : Phase → List ℕ
phase_text Guard = codes "guard"
phase_text Take = codes "take"
phase_text First = codes "first"
phase_text Restore = codes "restore"
phase_text Second = codes "second"
phase_text Compare = codes "compare"
phase_text Verify = codes "verify"
phase_text Enter = codes "enter"
phase_text Give = codes "give"
phase_text Send = codes "send"
phase_text Done = codes "done"

-- the words of the cause of an abort
abbrev pub cause_text : AbortCause → List ℕ
cause_text (Gate done) = codes "gate " ++ decimal done
cause_text Code = codes "code"
cause_text (Range address) = codes "range " ++ decimal address
cause_text (Table index) = codes "table " ++ decimal index
cause_text Budget = codes "budget"
cause_text LogFull = codes "logfull"
cause_text OutFull = codes "outfull"
cause_text Output = codes "output"
cause_text Bucket = codes "bucket"
cause_text Notes = codes "notes"
cause_text (Differs index) = codes "differs " ++ decimal index
cause_text Reply = codes "reply"
cause_text Wire = codes "wire"

-- traversal t of connection c is aborted in a phase
abbrev pub abort_text : ℕ → ℕ → Phase → AbortCause → List ℕ
abort_text c t phase cause =
    codes "abort " ++ decimal c ++ codes " " ++ decimal t ++ codes " " ++ phase_text phase ++ codes " " ++ cause_text cause ++ codes "\n"

-- the last line
abbrev pub end_text : Bool → List ℕ
end_text false = codes "end ok\n"
end_text true = codes "end aborted\n"
