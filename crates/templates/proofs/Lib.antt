pub mod Fills
pub mod Taking
pub mod Moves
pub mod Finished
pub mod Sizing
pub mod Whole
pub mod TemplateAt
