pub mod BookSteps
pub mod SenderSteps
pub mod ScriptRun
pub mod LastMark
pub mod HandedNode
pub mod FolderLemmas
pub mod CanRunLemmas
pub mod DifferLemmas
