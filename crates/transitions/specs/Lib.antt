-- What a step asks and gives.
pub mod Step
