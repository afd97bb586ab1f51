pub mod PieceLemmas
pub mod ParityLemmas
