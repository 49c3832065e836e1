pub mod Inverses
pub mod Good
pub mod Fronts
pub mod Complete
pub mod Answering
pub mod Tracking
pub mod Ending
