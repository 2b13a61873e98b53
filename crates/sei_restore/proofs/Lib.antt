pub mod UndoLaws
pub mod Public
