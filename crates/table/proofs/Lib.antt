pub mod Filling
pub mod Exactly
pub mod Printing
pub mod Outcomes
pub mod Longest
pub mod OneLine
pub mod RoundTrip
