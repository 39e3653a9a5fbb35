-- How a written sheet leaves a slice.
use Rattle.std.specs.Prelude.{◌≡◌, List, ◌++◌, ℕ, length, drop}

-- the answer n is the length of what is written, and the slice ends with that, its later bytes kept (01 Size, label, wrap)
pub record Put (n : ℕ) (exit written entry : List ℕ) : Type 0 where
  pub answer : n ≡ length written
  pub slice : exit ≡ written ++ drop (length written) entry
