pub mod Boxed
pub mod ReadingExprs
pub mod ReadingItems
pub mod PolicyReaders
pub mod Inside
