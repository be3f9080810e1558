pub mod Machine
pub mod Running
pub mod Tasks
pub mod Passing
pub mod Refusals
pub mod Cases
