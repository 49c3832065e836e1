pub mod Cuts
pub mod Bodies
pub mod Whole
