-- Typed trees of the grammar: each tree has one, and only one.
pub mod Chains
pub mod Expressions
pub mod Policies
pub mod PartsSame
pub mod ClausesSame
pub mod SameLabels
pub mod FittingLeaves
pub mod PlainLists
