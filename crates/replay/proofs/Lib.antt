pub mod Differences
pub mod Guesses
pub mod Judging
pub mod Rings
pub mod Tracks
pub mod Words
