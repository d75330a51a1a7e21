pub mod Groups
pub mod Spellings
pub mod Over
pub mod Format
pub mod Writing
pub mod Lists
pub mod Parts
pub mod Outputs
