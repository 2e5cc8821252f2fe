pub mod Stretches
pub mod Answers
pub mod Faults
pub mod Cases
