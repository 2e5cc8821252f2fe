pub mod Places
pub mod Order
pub mod Search
