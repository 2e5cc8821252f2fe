pub mod Core
pub mod Runs
pub mod Events
