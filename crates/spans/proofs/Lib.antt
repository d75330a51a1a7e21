pub mod Refused
pub mod Tabling
pub mod Further
