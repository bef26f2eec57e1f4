-- The definitions that the contracts of ports cite.
pub mod Meaning
pub mod Calls
pub mod Memories
pub mod Progresses
pub mod Storing
pub mod Maps
pub mod Layers
pub mod Means
pub mod LayerLaws
pub mod MapLaws
pub mod CallLaws
pub mod MemoryLaws
pub mod ProgressLaws
pub mod StoringLaws
