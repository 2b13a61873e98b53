pub mod CompareLaws
pub mod Public
