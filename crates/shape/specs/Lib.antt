pub mod Shapes
pub mod Rows
