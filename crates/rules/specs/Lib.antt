pub mod Rules
pub mod Method
