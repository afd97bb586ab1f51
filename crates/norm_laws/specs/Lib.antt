pub mod SentOnce
pub mod CountsFit
pub mod HandedUp
pub mod LaterTails
