pub mod Asking
pub mod Fronts
