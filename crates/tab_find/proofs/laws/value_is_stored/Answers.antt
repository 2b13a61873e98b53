use Rattle.std.proofs.Common.{List, ℕ, subst}
use Rattle.sei_stmt.specs.Programs.{Ends}
use Rattle.tab_find.specs.Copies.{HasStored}
use Rattle.tab_find.specs.StorePrograms.{store_value}
use Rattle.tab_find.proofs.PublicStoring.{store_value_ends}
use Rattle.tab_find.proofs.laws.value_is_stored.Goals as goal

pub returns : goal.returns
returns c = λ g e ws m index i vs s bound most h stores logs steps.
    subst (λ (l : List ℕ). Ends e (store_value index) s (HasStored g m l i vs bound most)) h.same (store_value_ends g e s m index i vs bound most h.can stores logs steps)
