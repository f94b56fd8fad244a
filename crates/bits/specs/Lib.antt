pub mod Pick
pub mod Lists
pub mod Bits
pub mod Xor
pub mod BigEndian
pub mod Refusals
pub mod Portion
