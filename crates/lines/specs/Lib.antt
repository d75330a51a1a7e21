pub mod Lines
pub mod Steps
pub mod Bares
pub mod Spelled
pub mod Ended
pub mod Laws
pub mod Refused
