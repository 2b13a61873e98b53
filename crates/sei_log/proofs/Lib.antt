pub mod ChangeLaws
pub mod Public
