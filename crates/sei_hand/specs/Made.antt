-- When a handler belongs to its geometry.
use Rattle.std.specs.Prelude.{◌≡◌, List}
use Rattle.mc_model.specs.declared.geometry.Geometry.{Geometry}
use Rattle.mc_model.specs.Server.{IsValid}
use Rattle.sei_stmt.specs.declared.stmt.Stmt.{Stmt}
use Rattle.sei_hand.specs.Commands.{hands_table}

-- a valid geometry, and its table
pub record IsMade (g : Geometry) (table : List Stmt) : Type 0 where
  pub valid : IsValid g
  pub statements : table ≡ hands_table g
