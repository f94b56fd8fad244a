pub mod Policies
pub mod Cryptex
pub mod Judging
pub mod Shapes
