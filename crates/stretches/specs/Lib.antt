pub mod Stretch
pub mod Claims
