pub mod Tables
pub mod Laid
pub mod Seats
pub mod Decoded
pub mod Kept
pub mod Built
pub mod Copied
