pub mod Firsts
pub mod Laws
pub mod Options
pub mod Here
pub mod Meeting
pub mod Holding
pub mod Exact
