pub mod Worded
pub mod Made
pub mod Passing
pub mod Products
pub mod Characterless
