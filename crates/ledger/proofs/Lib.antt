pub mod Guesses
pub mod Ring
pub mod Ledger
pub mod Indices
