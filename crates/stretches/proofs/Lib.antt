pub mod Stretched
pub mod Judged
pub mod Outcome
pub mod Cases
