mod Tests
mod Loops
mod Steps
mod Reasons
mod Statuses
mod EventKinds
mod Accepted
mod Moves
mod Deciding
mod Listed
mod Confirmed
pub mod JudgingLemmas
mod Reporting
