pub mod KeptLaws
pub mod CoverLaws
pub mod Turning
pub mod Searching
pub mod Deciding
