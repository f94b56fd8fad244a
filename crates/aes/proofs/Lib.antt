pub mod Rounds
pub mod Borders
