pub mod Flags
pub mod Making
