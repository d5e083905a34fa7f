pub mod Laws
pub mod Pictures
