-- lists, stages and the lowest ticket
pub mod Tables
pub mod Stages
pub mod Lowests
-- the moves of a call, and the ways in which a call can go
pub mod Ways
pub mod Sames
pub mod Happens
-- tickets
pub mod Traces
pub mod Tickets
pub mod Bases
-- slots
pub mod Slots
pub mod Balances
pub mod Placed
pub mod Settles
-- the port, and what the law of the waits sees
pub mod Counts
pub mod Views
pub mod Stores
pub mod Begins
pub mod Writes
-- every state of a run
pub mod Invariants
pub mod Moves
pub mod Reaches
-- how long requests take, and all the promises
pub mod Ticks
pub mod Timings
pub mod Sounds
-- the rules of grants and port, and what a call promises
pub mod Overruns
pub mod Turns
pub mod Feeds
pub mod Laws
-- loops that settle and expire
pub mod Loops
