pub mod Scanning
pub mod Stored
pub mod Grammar
pub mod Printed
pub mod RoundTrip
