pub mod Fault
pub mod Stages
