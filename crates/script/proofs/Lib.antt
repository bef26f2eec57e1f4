pub mod Powers
pub mod Numerals
pub mod Splits
pub mod Later
pub mod Table
pub mod Made
