pub mod JoiningLemmas
pub mod WayLemmas
