-- What every traversal keeps, whatever the answers of the core are.
use Rattle.std.specs.Prelude.{◌≡◌, ℕ, ◌≤◌, List, length, Option}
use Rattle.sei_stmt.specs.Handling.{Parsed, parsed_words}
use Rattle.sei_pass.specs.declared.given.Sealed.{Sealed}
use Rattle.sei_pass.specs.declared.spaces.PassSpace.{PassSpace}
use Rattle.sei_pass.specs.Setting.{sealed_call}
use Rattle.sei_pass.specs.State.{IsPass}
use Rattle.sei_traverse.specs.declared.workspace.Workspace.{Workspace}

-- both passes are of this space, and the logs and the copy for the wire have their rooms and fit into them
pub record IsWorkspace (w : Workspace) : Type 0 where
  pub first : IsPass w.first
  pub second : IsPass w.second
  pub same : w.second.space ≡ w.first.space
  pub first_log : length w.first_log.items ≤ w.first.space.log
  pub second_log : length w.second_log.items ≤ w.first.space.log
  pub first_room : w.first_log.room ≡ w.first.space.log
  pub second_room : w.second_log.room ≡ w.first.space.log
  pub wire_room : w.wire.room ≡ w.first.space.bytes
  pub wire_fits : length w.wire.items ≤ w.wire.room

-- the input words of the sealed call fit into this space
abbrev pub FitsIn : PassSpace → (ℕ → Option Parsed) → Sealed → Type 0
FitsIn space parsed sealed = length (parsed_words (sealed_call parsed sealed.nth)) ≤ space.input

-- what each act and step leaves as it is
pub record Stays (w v : Workspace) : Type 0 where
  pub sealed : v.sealed ≡ w.sealed
  pub space : v.first.space ≡ w.first.space
  pub workspace : IsWorkspace w → IsWorkspace v

-- what each step leaves as it is, in this space and for these calls: the seal, the space, how many words are lent, and that the
-- workspace keeps its rooms if the input words of the call fit
pub record KeepsWorkspace (k : PassSpace) (parsed : ℕ → Option Parsed) (w : Workspace) (words : List ℕ) (v : Workspace) (left : List ℕ) : Type 0 where
  pub sealed : v.sealed ≡ w.sealed
  pub space : v.first.space ≡ w.first.space
  pub workspace : IsWorkspace w → w.first.space ≡ k → FitsIn k parsed w.sealed → IsWorkspace v
  pub long : length left ≡ length words
