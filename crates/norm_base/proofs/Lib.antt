pub mod RangeLemmas
pub mod CountLemmas
pub mod MemberLemmas
pub mod CopyLemmas
