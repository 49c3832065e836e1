pub mod Wiping
pub mod Table
