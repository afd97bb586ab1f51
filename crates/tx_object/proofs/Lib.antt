pub mod ListLemmas
pub mod RoundLemmas
pub mod UnsentLemmas
pub mod HeldLemmas
pub mod SourcesLemmas
pub mod MarkedLemmas
