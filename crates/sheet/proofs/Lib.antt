pub mod Outcomes
pub mod Steps
pub mod Items
pub mod Decoding
