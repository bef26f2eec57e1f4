pub mod Watching
pub mod Serves
