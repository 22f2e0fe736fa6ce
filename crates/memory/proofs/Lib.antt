pub mod Cells
pub mod Nests
pub mod Stores
pub mod Values
pub mod Words
