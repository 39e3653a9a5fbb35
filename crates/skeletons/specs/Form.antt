-- The form that the model makes of a grammar, as bytes.
use Rattle.std.specs.Prelude.{List, ℕ, ◌-◌, length}
use Rattle.terms.specs.Grammar.{Rule as Production}
use Rattle.terms.specs.FormBytes.{form_bytes}
use Rattle.skeletons.specs.Skeleton.{Skeleton, param, shut, under, branch}
use Rattle.skeletons.specs.Make.{skeleton_of}
use Rattle.skeletons.specs.Scan.{scanned}

-- the number of the rank-0 rule that a skeleton is, 0 where it is none
abbrev pub number_of : Skeleton → ℕ
number_of (param i) = 0
number_of (shut a) = a
number_of (under c s) = 0
number_of (branch f ss) = 0

-- the bytes of the form that is made of the rules of a grammar, over whose alphabet it is
unfoldable pub made_form : List ℕ → List Production → List ℕ
made_form alphabet rules =
    let x = scanned alphabet rules (length rules) in
    form_bytes alphabet x.rules (number_of (skeleton_of x (length rules - 1)))
