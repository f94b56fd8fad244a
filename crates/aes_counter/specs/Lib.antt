pub mod Keystream
