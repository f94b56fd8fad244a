pub mod Schedule
pub mod Turns
pub mod Blocks
pub mod Padding
pub mod Digests
