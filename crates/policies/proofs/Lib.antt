pub mod Layouts
pub mod Verdicts
