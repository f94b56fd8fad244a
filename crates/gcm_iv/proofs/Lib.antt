pub mod Ivs
