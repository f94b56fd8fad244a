pub mod Feeding
pub mod Places
pub mod Lengths
