pub mod FormLemmas
pub mod PairLemmas
