pub mod SegmentLemmas
pub mod StreamLemmas
pub mod UptoLemmas
pub mod GoingOnLemmas
pub mod LaterLemmas
pub mod SetLemmas
