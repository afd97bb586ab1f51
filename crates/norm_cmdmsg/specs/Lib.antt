pub mod View
pub mod CanWrite
pub mod SymbolOctets
pub mod Whole
pub mod Laws
