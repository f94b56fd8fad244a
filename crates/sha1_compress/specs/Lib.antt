pub mod Message
pub mod Hash
pub mod Steps
