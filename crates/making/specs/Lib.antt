pub mod Making
pub mod Private
