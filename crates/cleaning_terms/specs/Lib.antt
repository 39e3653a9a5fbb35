-- Grammars whose rules may drop arguments or be a lone parameter (document 02, R-3).
pub mod Cleaning
pub mod Clean
pub mod Presence
pub mod Claims
pub mod Examples
