pub mod Functions
pub mod Stages
