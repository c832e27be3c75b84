pub mod Overs
pub mod Stretches
