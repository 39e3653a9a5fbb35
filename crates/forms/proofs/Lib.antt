pub mod Rules
pub mod Alike
