pub mod Greatests
pub mod Bounds
pub mod Elsewheres
pub mod Tables
