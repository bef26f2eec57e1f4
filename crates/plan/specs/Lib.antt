pub mod Rules
pub mod Layouts
pub mod Slots
pub mod Kinds
pub mod Reading
pub mod Faults
pub mod Texts
