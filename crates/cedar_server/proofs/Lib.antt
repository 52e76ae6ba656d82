mod Expecting
pub mod Lists
mod Mending
pub mod Reading
mod Ahead
mod Classing
mod StandingParts
mod Sectioning
mod Heading
mod Naming
mod Lining
mod Folding
mod Placing
mod Selecting
mod Growing
pub mod Layouts
pub mod Losing
pub mod Maps
pub mod Talks
pub mod Standing
mod Told
