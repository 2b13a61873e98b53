use Rattle.mc_text.proofs.PublicCalls.{calls_fit, calls_hold_bytes}
use Rattle.mc_text.proofs.laws.calls_fit.Goals as goal

pub returns : goal.returns
returns c = record { fit = calls_fit; bytes = calls_hold_bytes }
