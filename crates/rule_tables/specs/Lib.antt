pub mod Bytes
pub mod Choice
pub mod Table
pub mod Rules
