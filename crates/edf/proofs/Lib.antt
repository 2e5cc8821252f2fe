pub mod Looking
pub mod Running
pub mod Settled
pub mod Fresh
pub mod Adding
