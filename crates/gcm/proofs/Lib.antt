pub mod Counters
pub mod InPlace
pub mod Lengths
