mod RowLemmas
mod LatestLemmas
mod OnceLemmas
mod EventLemmas
mod PushLemmas
mod HandLemmas
mod CountedLemmas
