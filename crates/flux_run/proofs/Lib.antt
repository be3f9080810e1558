pub mod Binding
pub mod CaseLaws
pub mod Fitting
pub mod Starting
pub mod Turns
pub mod Whole
pub mod Working
