pub mod Questions
pub mod Items
pub mod Lines
pub mod Written
pub mod Exactly
