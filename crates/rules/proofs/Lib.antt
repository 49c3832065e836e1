pub mod Needing
pub mod Passed
pub mod Targets
pub mod Lowest
pub mod Starting
