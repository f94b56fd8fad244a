pub mod NextKey
