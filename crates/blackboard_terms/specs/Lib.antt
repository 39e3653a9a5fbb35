-- The blackboard method (document 02, R-7; source document 003, Theorem 1).
pub mod Blackboard
pub mod Step
pub mod Claims
pub mod Examples
