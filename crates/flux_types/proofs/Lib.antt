pub mod Variants
pub mod KeptLaws
pub mod IndexLaws
pub mod SearchLaws
pub mod RankLaws
pub mod DefsLaws
pub mod TableLaws
