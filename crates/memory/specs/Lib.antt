pub mod Encoding
pub mod Heaps
pub mod Stacks
