pub mod WritingLemmas
mod HearerLemmas
mod GatherLemmas
mod ChainLemmas
mod RunLemmas
mod MisfitLemmas
