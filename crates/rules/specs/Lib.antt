pub mod Numbers
pub mod Starts
pub mod Asking
pub mod Places
pub mod Needs
pub mod Regions
pub mod Sites
pub mod Judging
