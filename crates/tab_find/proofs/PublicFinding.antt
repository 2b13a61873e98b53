-- The laws of the moment, the find and a free slot, with what each program may write, and the numbers of an item that a key has.
pub use Rattle.tab_find.proofs.BoundedLaws.{numbered_lookup, item_numbered}
pub use Rattle.tab_find.proofs.MomentEnds.{mover, moment_stands}
pub use Rattle.tab_find.proofs.Ready.{finding}
pub use Rattle.tab_find.proofs.FindLaws.{find_stands}
pub use Rattle.tab_find.proofs.FreeEnds.{freer, free_ends}
