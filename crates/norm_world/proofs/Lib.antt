pub mod WorldLemmas
pub mod SenderEvents
pub mod ReceiverEvents
pub mod NewLemmas
