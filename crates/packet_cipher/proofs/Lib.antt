pub mod Pads
pub mod Passes
pub mod Crypting
pub mod Tagging
pub mod GcmPass
