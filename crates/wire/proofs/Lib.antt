pub mod Forms
pub mod Wires
pub mod RoundTrips
pub mod Sizes
pub mod Tagging
pub mod Restoring
pub mod Arriving
