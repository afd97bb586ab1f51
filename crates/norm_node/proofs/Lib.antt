pub mod GoesLemmas
pub mod HubLemmas
pub mod RunLemmas
