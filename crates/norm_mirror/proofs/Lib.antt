pub mod CutLemmas
pub mod SpellLemmas
pub mod CheckLemmas
pub mod DifferLemmas
