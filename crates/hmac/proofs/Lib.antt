pub mod Keys
pub mod Macs
