pub mod Quotients
pub mod Ratios
