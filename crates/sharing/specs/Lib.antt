pub mod Rule
pub mod Gaps
pub mod Columns
pub mod Laws
pub mod Views
