pub mod Agree
pub mod EachLaws
pub mod Erased
pub mod Growing
pub mod NotedAgree
pub mod OneType
pub mod Sound
