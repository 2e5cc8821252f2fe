pub mod Format
pub mod Reading
pub mod Writing
pub mod Answers
pub mod Stores
