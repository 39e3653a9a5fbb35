-- The table that spreads sets of states, and the identity.
pub mod Spread
pub mod Identity
