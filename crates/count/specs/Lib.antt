pub mod Uses
pub mod Paths
pub mod Tally
pub mod Steps
pub mod Laws
