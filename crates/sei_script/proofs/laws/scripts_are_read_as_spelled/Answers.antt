use Rattle.sei_script.proofs.ReadsLaws.{text_reads, reads_text, text_fails, fails_text}
use Rattle.sei_script.proofs.laws.scripts_are_read_as_spelled.Goals as goal

pub returns : goal.returns
returns c = record { read = text_reads; read_only = reads_text; failed = text_fails; failed_only = fails_text }
