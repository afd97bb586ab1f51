pub mod Forms
pub mod Groups
pub mod Tasks
pub mod Fits
pub mod NodeTasks
