pub mod Wire
pub mod Claims
pub mod Steps
