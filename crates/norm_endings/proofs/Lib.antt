mod SayLemmas
pub mod UsageLemmas
