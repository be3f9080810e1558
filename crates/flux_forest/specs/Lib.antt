pub use Rattle.flux_trees.specs.Hedge
pub use Rattle.flux_trees.specs.HedgeCode
pub use Rattle.flux_trees.specs.Draft
pub use Rattle.flux_trees.specs.Each
pub mod Flat
pub mod View
pub mod Heads
