pub mod Sums
pub mod Counts
pub mod Wholes
pub mod Answered
pub mod Meanings
