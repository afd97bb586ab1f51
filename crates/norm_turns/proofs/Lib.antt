pub mod FaultLemmas
mod TellingLemmas
