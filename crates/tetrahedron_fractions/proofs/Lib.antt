-- The laws.
pub mod FractionLaws
pub mod BranchLaws
