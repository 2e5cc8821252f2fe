pub mod Accepts
pub mod Runs
pub mod Reported
