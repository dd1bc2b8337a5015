pub mod Numbers
pub mod Equality
pub mod Operations
pub mod Pointers
pub mod RoundTrip
pub mod Claims
