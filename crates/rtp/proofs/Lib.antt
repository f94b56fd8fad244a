pub mod Handing
pub mod Locating
