-- the words of the scheduler
pub mod Refusals
pub mod Records
pub mod Lowests
pub mod States
pub mod Moves
pub mod Calls
-- runs, and what they keep
pub mod Runs
pub mod Promises
pub mod Grants
pub mod Feeds
pub mod Stops
pub mod Laws
