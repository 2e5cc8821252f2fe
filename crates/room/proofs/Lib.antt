pub mod Turns
pub mod Answered
