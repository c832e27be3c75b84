pub mod Trees
pub mod Balance
pub mod Frames
pub mod Plans
pub mod Fills
pub mod Reach
pub mod Rebuilds
pub mod Promises
