pub mod SoFarLemmas
pub mod SendingLemmas
pub mod TakingLemmas
pub mod EndingLemmas
pub mod LeftLemmas
pub mod CommandLemmas
pub mod ReadingLemmas
pub mod StartingLemmas
pub mod SafeLemmas
pub mod DirectLemmas
pub mod MomentLemmas
pub mod TurningLemmas
pub mod TurnsLemmas
pub mod SessionLemmas
mod TurnedLemmas
mod PausingLemmas
pub mod TellingLemmas
pub mod HandingLemmas
pub mod ServingLemmas
pub mod ScriptLemmas
pub mod LawLemmas
