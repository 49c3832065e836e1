pub mod Form
pub mod Table
pub mod Decoding
pub mod Effects
