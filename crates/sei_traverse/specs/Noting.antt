-- What a step notes of the time.
use Rattle.std.specs.Prelude.{◌≡◌, ℕ, Option, Some}
use Rattle.sei_code.specs.Coded.{sealed}
use Rattle.sei_code.specs.declared.coded.Coded.{Coded}
use Rattle.sei_pass.specs.Steps.{IsAnswer}

-- nothing new, or the clock's answer, sealed
pub data NotesTime (told : Option ℕ) (before after : Option Coded) : Type 0 where
  Same : after ≡ before → NotesTime told before after
  Noted : (time : ℕ) → IsAnswer told time → after ≡ Some (sealed time) → NotesTime told before after
