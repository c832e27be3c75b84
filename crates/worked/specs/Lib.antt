pub mod Table
pub mod Runs
