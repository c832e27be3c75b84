pub mod Links
pub mod Threading
pub mod Makings
