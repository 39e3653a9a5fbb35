pub mod Finishing
pub mod Cleaned
pub mod SheetRead
pub mod Formed
