pub mod FeedLaws
pub mod CallLaws
pub mod LentLaws
pub mod WindowLaws
pub mod CountedLaws
pub mod TailLaws
