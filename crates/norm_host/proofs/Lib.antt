pub mod InstanceLemmas
pub mod FolderLemmas
mod HostLemmas
