pub mod CutLemmas
pub mod CoverLemmas
pub mod PartitionLemmas
pub mod PositionLemmas
pub mod PointLemmas
