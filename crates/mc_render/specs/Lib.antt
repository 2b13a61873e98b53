pub mod Shown
pub mod Puts
pub mod Outputs
pub mod Rendering
