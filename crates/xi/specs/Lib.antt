pub mod Numbers
pub mod Program
pub mod Tree
pub mod Typing
pub mod Obeys
pub mod Codes
