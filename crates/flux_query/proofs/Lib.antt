pub mod EnvLaws
pub mod TreeLaws
pub mod ValueLaws
pub mod CaseLaws
pub mod Variants
