pub mod ShowEnds
pub mod PublicRead
