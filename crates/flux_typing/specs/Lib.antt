pub mod Update
pub mod Accepted
pub mod Spelled
pub mod Labels
pub mod Laws
