pub mod Hexadecimal
pub mod Replies
pub mod Lines
