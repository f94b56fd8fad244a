pub mod Groups
pub mod Falling
pub mod Entries
