pub mod Kinds
pub mod Packings
