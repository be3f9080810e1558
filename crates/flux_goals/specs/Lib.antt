pub mod Goals
pub mod Fails
pub mod Table
pub mod Known
