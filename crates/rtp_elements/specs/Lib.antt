pub mod Elements
pub mod Mask
pub mod Next
pub mod Numbers
