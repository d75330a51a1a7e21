pub mod Promises
pub mod Making
pub mod Views
pub mod Made
pub mod Setting
pub mod Sets
