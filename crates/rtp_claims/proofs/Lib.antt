pub mod Naming
pub mod Covering
pub mod Alike
pub mod Members
