pub mod Layouts
pub mod Fitting
pub mod Places
pub mod Makings
pub mod Wholes
