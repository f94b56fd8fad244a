pub mod Hashes
pub mod Lengths
