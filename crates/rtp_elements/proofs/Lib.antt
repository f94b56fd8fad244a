pub mod Walks
pub mod Stepping
