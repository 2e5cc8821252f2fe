pub mod Sets
pub mod Terms
pub mod Reasons
pub mod Judging
pub mod Faults
pub mod Conditions
