mod SampleTokens
pub mod Deciding
mod KindLists
mod NameLists
mod Groups
mod Listings
mod Tokens
mod Following
pub mod Splits
pub mod Begun
pub mod Rests
pub mod Probed
pub mod FirstUnits
pub mod RightAfter
mod Branches
mod Tables
mod RuleReading
mod ReadBy
mod Parts
mod Pendings
mod Weights
mod Afters
mod Bracketing
mod Chains
mod Describing
mod Ending
mod Finding
mod Furthest
mod Leaving
mod Lines
mod Near
mod Passing
mod Points
mod Rooms
pub mod Searching
mod Slips
