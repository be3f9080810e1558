pub mod Learnt
pub mod At
pub mod Parses
pub mod Steps
pub mod Trees
