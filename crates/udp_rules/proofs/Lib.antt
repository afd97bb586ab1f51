pub mod AddressLemmas
pub mod GroupLemmas
pub mod ListeningLemmas
pub mod PacingLemmas
