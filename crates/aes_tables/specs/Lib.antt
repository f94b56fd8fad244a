pub mod Field
pub mod Cipher
pub mod Keys
pub mod Claims
pub mod Tables
