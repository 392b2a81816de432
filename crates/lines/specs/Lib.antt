pub mod Overlay
pub mod Lines
