mod ExtendLemmas
mod CourseLemmas
mod PassLemmas
mod TurnLemmas
mod BeginLemmas
pub mod FitLemmas
mod RunLemmas
pub mod RecoverLemmas
