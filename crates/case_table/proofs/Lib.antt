pub mod Cut
pub mod Digits
pub mod Adding
pub mod Groups
pub mod Words
pub mod Telling
