pub mod Decimals
pub mod Pieces
pub mod Rows
pub mod Streams
