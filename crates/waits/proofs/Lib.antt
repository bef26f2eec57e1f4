-- sums, stages, and the terms of the potential
pub mod Totals
pub mod Stages
pub mod Potential
-- each move keeps the invariants
pub mod Onward
pub mod Ends
pub mod Grants
pub mod Accepts
pub mod Advances
-- the law
pub mod Psis
pub mod Laws
pub mod Sharps
-- tables kept as lists
pub mod Lists
