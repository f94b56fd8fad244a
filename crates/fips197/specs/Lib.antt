pub mod Fips197
