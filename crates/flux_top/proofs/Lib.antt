mod Behind
pub mod Deleted
mod Labelled
mod Normals
pub mod Scripts
mod Asked
pub mod Grown
mod Kept
mod Lone
pub mod Preparing
mod Refused
pub mod Pruned
pub mod Spelled
pub mod Unique
pub mod Answering
mod Reading
