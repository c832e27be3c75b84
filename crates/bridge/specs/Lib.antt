pub mod Draws
pub mod Shows
