pub mod Cipher
pub mod Tag
