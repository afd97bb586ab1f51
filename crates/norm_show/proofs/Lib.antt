mod ListLemmas
mod SplitLemmas
mod ShowLemmas
