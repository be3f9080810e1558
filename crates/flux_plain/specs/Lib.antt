pub mod Focused
pub mod Layout
pub mod Moves
pub mod Next
pub mod NodeLabels
pub mod PlainStates
