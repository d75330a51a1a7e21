pub mod Columns
pub mod Held
pub mod Good
pub mod Sound
pub mod Answers
pub mod Views
