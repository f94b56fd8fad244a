pub mod Opens
pub mod Placing
pub mod Sizes
