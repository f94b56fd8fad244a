pub mod Sending
pub mod Arriving
