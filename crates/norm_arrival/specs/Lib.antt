pub mod FolderScript
pub mod FolderCanRun
pub mod HandedBy
pub mod FolderArrives
pub mod FolderHandsUp
pub mod FolderDiffers
