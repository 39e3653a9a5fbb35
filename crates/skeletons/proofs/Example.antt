-- A small proper grammar, its tree and its form: terminal 0 of rank 2 and terminal 1 of rank 0; rule 0 is 0(y0, y1), rule 1 is
-- rule 0(1, y0), rule 2 is y1 of two parameters, and the start, rule 3, is rule 1(rule 2(1, rule 1(1))).
use mathlib.Core.Path.{◌≡◌, refl}
use mathlib.Core.Bool.{Bool, true, false, cond}
use mathlib.Core.List.{List, [], ◌∷◌}
use Prim.Native.Nat.{ℕ, zero, suc, ◌≤◌, ◌<◌}
use native.Mathlib.Omega.{arith}
use lib.Dec.{eqb, eqb-suc-zero}
use Rattle.terms.specs.Test.{all}
use Rattle.terms.specs.Tree.{node, none, more, firsts, rest, pick, forest_of, tree_of, taking, wholes}
use Rattle.terms.specs.Grammar.{name, Rule, rank_in, right_side, is_parameter, sum_over, ProperRule, Proper, value, values, apply, derived}
use Rattle.terms.specs.Form.{whole, pierced, filled}
use Rattle.skeletons.specs.Skeleton.{param, shut, under, branch, nil, cons}
use Rattle.skeletons.specs.Make.{contract_chain, contract_terminal_by, contract_terminal, substitute, substitutes, name-made}
use Rattle.skeletons.specs.Scan.{turn, scan, scanned}

abbrev alphabet : List ℕ
alphabet = 2 ∷ 0 ∷ []

abbrev rules : List Rule
rules =
    record { rank = 2; nodes = 0x00 ∷ 0x80 ∷ 0x81 ∷ [] } ∷ record { rank = 1; nodes = 0x40 ∷ 0x01 ∷ 0x80 ∷ [] } ∷ record { rank = 2; nodes = 0x81 ∷ [] }
    ∷ record { rank = 0; nodes = 0x41 ∷ 0x42 ∷ 0x01 ∷ 0x41 ∷ 0x01 ∷ [] } ∷ []

-- what is asked of a grammar holds here

at_most_one : (b : Bool) → cond b 1 0 ≤ 1
at_most_one true = omega arith
at_most_one false = omega arith

once_0 : (j : ℕ) → sum_over (is_parameter j) (0x00 ∷ 0x80 ∷ 0x81 ∷ []) ≤ 1
unfolding name
once_0 zero = omega arith
once_0 (suc zero) = omega arith
once_0 (suc (suc j)) = rw (eqb-suc-zero (suc j)) (omega (arith, at_most_one (eqb (suc (suc j)) 1)))

example_rule : (i : ℕ) → i < 4 → ProperRule alphabet rules i
unfolding name wholes taking rank_in all
example_rule zero h = record { rank = omega arith; whole = refl; allowed = tt; once = once_0 }
example_rule (suc zero) h = record { rank = omega arith; whole = refl; allowed = tt; once = λ j. omega (arith, at_most_one (eqb j 0)) }
example_rule (suc (suc zero)) h = record { rank = omega arith; whole = refl; allowed = tt; once = λ j. omega (arith, at_most_one (eqb j 1)) }
example_rule (suc (suc (suc zero))) h = record {
  rank = omega arith;
  whole = refl;
  allowed = tt;
  once = λ j. omega arith;
}
example_rule (suc (suc (suc (suc i)))) h = absurd (omega arith)

example_proper : Proper alphabet rules
example_proper = record { some = omega arith; few = omega arith; start = refl; proper = example_rule }

example_derived : derived alphabet rules ≡ node 0 (more (node 1 none) (more (node 0 (more (node 1 none) (more (node 1 none) none))) none))
unfolding name rank_in firsts rest pick forest_of tree_of right_side value values apply derived
example_derived = refl

example_rules : (scanned alphabet rules 4).rules ≡ whole 1 [] ∷ pierced 0 (0 ∷ []) [] ∷ whole 1 [] ∷ filled 1 2 ∷ whole 1 [] ∷ filled 1 3 ∷ []
unfolding name rank_in contract_chain contract_terminal_by contract_terminal substitute substitutes name-made turn scan scanned
example_rules = refl

example_skeletons : (scanned alphabet rules 4).skeletons ≡ branch 0 (cons (param 0) (cons (param 1) nil)) ∷ under 1 (param 0) ∷ param 1 ∷ shut 5 ∷ []
unfolding name rank_in contract_chain contract_terminal_by contract_terminal substitute substitutes name-made turn scan scanned
example_skeletons = refl
