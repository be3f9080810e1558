pub mod Read
pub mod Kept
pub mod Faults
pub mod Indices
pub mod Search
pub mod Verdicts
