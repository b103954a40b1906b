pub mod NotedLaws
pub mod PageLaws
