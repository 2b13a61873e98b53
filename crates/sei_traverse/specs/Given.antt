-- What a traversal is given with each step.
use Rattle.std.specs.Prelude.{◌≡◌, ◌⊎◌, ℕ, Bool, false, nat_lt, List, Option, Some, None}
use Rattle.sei_code.specs.Coded.{read_of}
use Rattle.sei_pass.specs.declared.spaces.PassSpace.{PassSpace}
use Rattle.sei_stmt.specs.Handling.{Behavior, Parsed, parsed_bucket}
use Rattle.sei_stmt.specs.Machine.{Setting}
use Rattle.sei_pass.specs.declared.given.Sealed.{Sealed}
use Rattle.sei_pass.specs.declared.given.Which.{Which}
use Rattle.sei_pass.specs.Setting.{is_intact, sealed_call, setting_of}

-- what a step is given: what the handler does, the input, the space, and the number of the bucket that is lent
pub record Given : Type 0 where
  pub behavior : Behavior
  pub input : List ℕ
  pub space : PassSpace
  pub lent : Option ℕ

abbrev pub given_of : Behavior → List ℕ → PassSpace → Option ℕ → Given
given_of behavior input space lent = record { behavior = behavior; input = input; space = space; lent = lent }

-- there are calls, and the index reads and is below their number
abbrev pub has_call : Option ℕ → Option ℕ → Bool
has_call None nth = false
has_call (Some calls) None = false
has_call (Some calls) (Some nth) = nat_lt nth calls

-- the input is one whole request that has the sealed call
abbrev pub has_sealed_call : Given → Sealed → Bool
has_sealed_call g sealed = has_call (g.behavior.calls g.input) (read_of sealed.nth)

-- the input does not pass the tests of Guard: it is not the sealed one, or not one whole request with the sealed call
abbrev pub FailsGuard : Given → Sealed → Type 0
FailsGuard g sealed = (is_intact sealed g.input ≡ false) ⊎ (has_sealed_call g sealed ≡ false)

abbrev pub call_of : Given → Sealed → Option Parsed
call_of g sealed = sealed_call (g.behavior.parsed g.input) sealed.nth

abbrev pub bucket_or_zero : Option ℕ → ℕ
bucket_or_zero None = 0
bucket_or_zero (Some bucket) = bucket

-- the bucket of the sealed call, or 0 where the input has no such call
abbrev pub bucket_of_call : Given → Sealed → ℕ
bucket_of_call g sealed = bucket_or_zero (parsed_bucket (call_of g sealed))

-- the setting of a pass, where the clock answers this
abbrev pub setting_in : Given → Which → Sealed → ℕ → Setting
setting_in g which sealed now = setting_of which g.behavior g.input sealed g.lent g.space now
