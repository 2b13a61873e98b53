-- What became of a call so far, as the code holds it while its traversal goes on.
use Rattle.std.specs.Prelude.{◌≡◌, ℕ}
use Rattle.std.specs.Option.{option_map}
use Rattle.sei_main.specs.declared.tables.SoFar.{SoFar}
use Rattle.sei_main.specs.declared.world.service.Entered.{Entered}
use Rattle.sei_main.specs.declared.world.service.Served.{Served}

abbrev pub entry_in : SoFar → ℕ → Entered
entry_in s now = record { now = now; reply = s.reply.items }

abbrev pub served_in : SoFar → Served
served_in s = record { entered = option_map (entry_in s) s.entered; message = s.message.items; state = s.state }

-- its buffers have room for so many bytes
pub record HasRoom (room : ℕ) (s : SoFar) : Type 0 where
  pub reply : s.reply.room ≡ room
  pub message : s.message.room ≡ room
