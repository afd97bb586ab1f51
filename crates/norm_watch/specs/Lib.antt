pub mod Following
pub mod FollowingLaws
pub mod Spending
pub mod Watched
