pub mod Readings
pub mod Kept
