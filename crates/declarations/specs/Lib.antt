pub mod Kinds
pub mod Entries
pub mod Procedures
pub mod Marks
pub mod Views
