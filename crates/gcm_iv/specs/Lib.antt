pub mod Srtp
