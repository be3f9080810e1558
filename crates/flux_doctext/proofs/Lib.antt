pub mod Alike
pub mod CanonicalLaws
pub mod DocumentLaws
mod Drafts
pub mod LabelLaws
mod Levels
pub mod Literals
pub mod ReadLaws
pub mod Runs
pub mod Signs
pub mod SpelledLaws
pub mod StepLaws
pub mod Taken
pub mod TextLaws
pub mod ViableLaws
pub mod Written
pub mod WrittenLaws
