pub mod Chain
pub mod OpenChildren
pub mod Terminals
pub mod Substituting
pub mod Children
