-- The call of unfolding.
mod Call
