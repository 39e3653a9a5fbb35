-- What writing rests on: lists that are spliced, counts that are exact, what a rule of each kind has of its own, and rules of one node.
pub mod Splice
mod Exact
mod Slots
mod ByKind
mod Single
