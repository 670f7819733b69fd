pub mod Spans
pub mod Floats
pub mod Rooms
pub mod Rows
pub mod Sheets
pub mod Walking
pub mod Strides
