pub mod Digits
pub mod Marked
