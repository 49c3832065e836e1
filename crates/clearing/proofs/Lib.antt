pub mod Scans
pub mod Turns
pub mod Telling
pub mod Joining
