pub mod Portion
pub mod Hash
