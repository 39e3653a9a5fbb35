pub mod Standing
pub mod Adding
