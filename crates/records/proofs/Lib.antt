pub mod Lending
pub mod Scanning
