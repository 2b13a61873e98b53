pub mod PublicLayout
pub mod PublicSlots
pub mod FreshLaws
pub mod HoldsLaws
pub mod MomentLaws
pub mod FullLaws
pub mod PublicChanges
pub mod Public
