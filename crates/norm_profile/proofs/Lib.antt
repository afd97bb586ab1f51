pub mod MemberLemmas
pub mod LoadLemmas
