pub mod Gctr
pub mod Gcm
pub mod Steps
pub mod Claims
