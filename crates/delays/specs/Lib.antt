pub mod Greatest
pub mod Delays
pub mod Places
pub mod Rows
