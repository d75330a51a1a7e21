pub mod Options
pub mod Sums
pub mod Merges
pub mod Sizes
pub mod Spans
pub mod Least
pub mod Settles
