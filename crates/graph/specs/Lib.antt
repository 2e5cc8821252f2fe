pub mod Graphs
pub mod Answers
pub mod Faults
pub mod Cases
pub mod Parts
