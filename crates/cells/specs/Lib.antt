pub mod Cells
pub mod Builder
