pub mod Refusals
pub mod Chunks
pub mod Ledger
pub mod Calls
pub mod Items
pub mod Naturals
pub mod Preambles
pub mod Lawful
