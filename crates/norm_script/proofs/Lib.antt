pub mod NumberLemmas
pub mod LineLemmas
pub mod ReadingLemmas
pub mod NameLemmas
pub mod ChainLemmas
pub mod SoundLemmas
pub mod TakingLemmas
pub mod RunLemmas
pub mod WordLemmas
pub mod SpellLemmas
pub mod AgainLemmas
pub mod GeneratedLemmas
pub mod RowLemmas
pub mod BackLemmas
pub mod PlainLemmas
pub mod TextLemmas
pub mod ValueLemmas
mod FolderHeadLemmas
