pub mod Ledger
pub mod Claims
