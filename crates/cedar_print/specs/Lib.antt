pub mod WrittenMarks
pub mod Marks
pub mod Clean
pub mod Rooms
pub mod Laws
pub mod Inside
