-- What a pass holds.
use Rattle.std.specs.Prelude.{◌≡◌, ℕ, ◌≤◌, List, length, replicate, Option, None}
use Rattle.sei_code.specs.Kept.{Kept, empty_kept}
use Rattle.mc_model.specs.Server.{IsValid}
use Rattle.sei_pass.specs.declared.spaces.PassSpace.{PassSpace}
use Rattle.sei_pass.specs.Spaces.{IsSpaceOf}

-- its registers, its lists, the output code, how many statements it made, and its space
pub record PassState : Type 0 where
  pub registers : List ℕ
  pub input : Kept ℕ
  pub output : Kept ℕ
  pub bytes : Kept ℕ
  pub code : Option ℕ
  pub made : ℕ
  pub space : PassSpace

-- its space is that of its geometry, and its lists have the rooms of it and fit into them
pub record IsPass (p : PassState) : Type 0 where
  pub valid : IsValid p.space.geometry
  pub space : IsSpaceOf p.space
  pub registers : length p.registers ≡ 32
  pub input : p.input.room ≡ p.space.input
  pub output : p.output.room ≡ p.space.output
  pub bytes : p.bytes.room ≡ p.space.bytes
  pub made : p.made ≤ p.space.budget
  pub fits : length p.output.items ≤ p.output.room
  pub bytes_fit : length p.bytes.items ≤ p.bytes.room
  pub input_fits : length p.input.items ≤ p.input.room

-- it has a list beside, for the output words that it reads
pub record IsBuilt (p : PassState) (beside : Kept ℕ) : Type 0 where
  pub pass : IsPass p
  pub room : beside.room ≡ p.space.output

-- before its first statement
abbrev pub new_pass : PassSpace → PassState
new_pass s = record {
  registers = replicate 32 0;
  input = empty_kept ℕ s.input;
  output = empty_kept ℕ s.output;
  bytes = empty_kept ℕ s.bytes;
  code = None;
  made = 0;
  space = s;
}
