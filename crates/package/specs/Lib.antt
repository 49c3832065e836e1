pub mod Package
pub mod Views
pub mod Format
pub mod Rules
pub mod Tags
pub mod Reading
pub mod Judging
pub mod Printing
