pub mod Words
pub mod Edits
