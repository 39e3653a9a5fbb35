pub mod Cursor
pub mod Rules
