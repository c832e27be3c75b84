pub mod Histories
pub mod Counts
pub mod Calls
pub mod Runs
pub mod Views
pub mod Laws
