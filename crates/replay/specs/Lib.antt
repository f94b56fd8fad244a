pub mod Answers
pub mod Guess
pub mod Window
pub mod State
pub mod Receive
pub mod Send
pub mod Track
pub mod Steps
