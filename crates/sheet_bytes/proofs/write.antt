-- Laws for writing a sheet.
pub mod Pieces
