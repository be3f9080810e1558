pub mod Looks
pub mod Editing
