-- A script that reads may be run.
use Rattle.std.proofs.Common.{◌≡◌, ℕ, List}
use Rattle.sei_script.specs.declared.line.ScriptLine.{ScriptLine}
use Rattle.sei_script.specs.Limits.{script_limit}
use Rattle.sei_script.specs.Reading.{Reads}
use Rattle.sei_main.specs.Answers.{reading_in}
use Rattle.std.specs.Prelude.{All}
use Rattle.sei_script.specs.SaysBytes.{SaysBytes}
use Rattle.sei_script.proofs.Public.{reads_fit, reads_valid}
use Rattle.sei_main.proofs.Laws.{IsRunnable}

pub reads_runnable : (input : List ℕ) (script : List ScriptLine) → reading_in input ≡ Reads script → All SaysBytes script → IsRunnable script
reads_runnable input script e says = record { fit = reads_fit script_limit input script e; valid = reads_valid script_limit input script e; says = says }
