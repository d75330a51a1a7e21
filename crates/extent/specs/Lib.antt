pub mod Sizes
pub mod Sides
