pub mod Lists
pub mod Bodies
pub mod Triples
pub mod Checks
pub mod Owners
