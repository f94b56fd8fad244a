pub mod Portions
pub mod Streams
pub mod Pieces
pub mod Derived
