pub mod Side
pub mod Rules
