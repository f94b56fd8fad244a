pub mod Hmac
pub mod Steps
