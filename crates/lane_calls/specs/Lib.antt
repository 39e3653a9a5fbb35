-- The states of a call, as the code finds them.
pub mod Call
