pub mod Header
pub mod Order
