pub mod Rows
pub mod Equal
