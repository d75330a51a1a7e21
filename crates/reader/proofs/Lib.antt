pub mod Spellings
pub mod Backslash
pub mod Ranges
pub mod Runs
pub mod Reading
pub mod Reaching
pub mod Finding
