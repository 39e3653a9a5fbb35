-- Two alphabets are the same where `==` says so.
use mathlib.Core.Path.{◌≡◌}
use mathlib.Core.List.{List}
use Prim.Native.Nat.{ℕ}
use lib.Dec.{eqb}
use lib.Pointwise.{pointwise, bytes_decides}
use Rattle.terms.specs.FormBytes.{same_alphabet}
use Rattle.terms.proofs.Test.{same_test, is_true, of_true}
use Rattle.terms.proofs.Form.Bytes.{same-is, is_same}

pub alike : (a b : List ℕ) → pointwise eqb a b ≡ same_alphabet a b
alike a b = same_test (pointwise eqb a b) (same_alphabet a b)
    (λ t. is_same a b ((bytes_decides a b).0 (is_true (pointwise eqb a b) t)))
    (λ t. of_true (pointwise eqb a b) ((bytes_decides a b).1 (same-is a b t)))
