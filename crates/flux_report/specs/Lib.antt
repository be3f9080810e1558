pub mod Positions
pub mod Lines
pub mod ReadsBack
pub mod CoreText
