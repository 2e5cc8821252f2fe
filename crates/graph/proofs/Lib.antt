pub mod Cases
pub mod Paths
pub mod Growing
pub mod Raising
pub mod Listed
pub mod Judged
pub mod Finding
