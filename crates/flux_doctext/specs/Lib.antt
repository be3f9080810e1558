pub mod Documents
pub mod Labels
pub mod Reading
pub mod Spells
pub mod Steps
pub mod Text
