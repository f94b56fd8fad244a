pub mod Stretch
pub mod Call
