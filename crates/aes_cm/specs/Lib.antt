pub mod Portion
pub mod Derivation
