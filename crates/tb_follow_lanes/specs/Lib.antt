pub mod FollowRuns
pub mod Laws
