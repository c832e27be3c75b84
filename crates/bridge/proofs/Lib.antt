pub mod Shows
pub mod Lengths
pub mod Needs
pub mod Counts
