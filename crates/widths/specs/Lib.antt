pub mod Merging
pub mod Formula
pub mod Entries
pub mod Settling
pub mod Samples
