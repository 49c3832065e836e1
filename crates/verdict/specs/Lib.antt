pub mod Numbers
pub mod Breaking
pub mod Assignment
pub mod Answers
