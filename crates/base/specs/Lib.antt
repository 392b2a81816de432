pub mod Refusals
pub mod Layers
pub mod Shown
pub mod Outcomes
