pub mod Claims
pub mod Awaits
