pub mod Terms
pub mod Changes
pub mod Replies
pub mod Conversations
pub mod Cuts
pub mod Laws
