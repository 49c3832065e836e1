pub mod Errors
pub mod Lines
pub mod Responses
pub mod Spelling
pub mod Words
