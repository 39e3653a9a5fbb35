-- What an answer says of the test that it answers.
use mathlib.Core.Path.{◌≡◌, sym, ◌∙◌}
use mathlib.Core.Bool.{Bool, true, false}

-- the answer r to a test b
module _ {r b : Bool} (e : r ≡ b) where
  pub failed : r ≡ false → b ≡ false
  failed n = sym e ∙ n

  pub passed : r ≡ true → b ≡ true
  passed n = sym e ∙ n
