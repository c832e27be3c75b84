pub mod Finds
pub mod Marked
pub mod Takes
pub mod Lasts
pub mod Grounds
pub mod Sounds
pub mod Runs
pub mod Views
