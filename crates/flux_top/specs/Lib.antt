pub mod Script
pub mod Words
pub mod Paths
pub mod Lines
pub mod Answer
pub mod Unique
pub mod Clauses
pub mod Prepare
