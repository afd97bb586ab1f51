pub mod Column
pub mod Codeword
pub mod Points
pub mod Row
pub mod Code
pub mod Solver
pub mod Aside
pub mod Laws
