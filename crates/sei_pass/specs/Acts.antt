-- What a statement does, as far as a planned fault may select by it.
use Rattle.std.specs.Prelude.{ℕ, List, slice_index}
use Rattle.sei_fault.specs.declared.place.Act.{Act}
use Rattle.sei_fault.specs.declared.place.Act.TheVariants as act
use Rattle.sei_stmt.specs.declared.stmt.Stmt.{Stmt}
use Rattle.sei_stmt.specs.declared.stmt.Stmt.TheVariants.{Load, Store, Now, Alloc, Parse, Render, Halt}

-- an address is the number that the statement's register holds
abbrev pub act_of : List ℕ → Stmt → Act
act_of registers (Load to address) = act.Load (slice_index registers address)
act_of registers (Store address from) = act.Store (slice_index registers address)
act_of registers (Now to) = act.Now
act_of registers (Alloc to moment) = act.Alloc
act_of registers Parse = act.Parse
act_of registers Render = act.Render
act_of registers Halt = act.Halt
act_of registers s = act.Plain
