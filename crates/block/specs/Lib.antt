pub mod Refusals
pub mod Blocks
pub mod Calls
pub mod Laws
