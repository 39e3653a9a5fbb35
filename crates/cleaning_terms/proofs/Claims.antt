-- What R-3 promises of cleaning holds of every grammar.
use mathlib.Core.List.{List}
use Prim.Native.Nat.{ℕ, suc}
use native.Mathlib.Omega.{arith}
use Rattle.terms.specs.Grammar.{Rule, Proper}
use Rattle.cleaning_terms.specs.Cleaning.{cleaned}
use Rattle.cleaning_terms.specs.Claims.{CleaningRight}
use Rattle.cleaning_terms.proofs.Sifted.{cleaned-length}
use Rattle.cleaning_terms.proofs.Bound.{cleaned-nodes, cleaned-bound}
use Rattle.cleaning_terms.proofs.Value.{cleaned-derived}
use Rattle.cleaning_terms.proofs.Proper.{cleaned-clean}
use Rattle.cleaning_terms.proofs.Used.{apply_used}
use Rattle.cleaning_terms.proofs.Presence.{presence}
use Rattle.cleaning_terms.proofs.Same.{cleaned-same}

pub cleaning_right : (alphabet : List ℕ) (rules : List Rule) → Proper alphabet rules → CleaningRight alphabet rules
cleaning_right alphabet rules p = record {
  tree = cleaned-derived alphabet rules p;
  clean = cleaned-clean alphabet rules p;
  as_many = cleaned-length alphabet rules;
  nodes = cleaned-nodes alphabet rules;
  bound = cleaned-bound alphabet rules;
  whole = λ i h g args e q l. apply_used g alphabet (cleaned alphabet rules) (cleaned-clean alphabet rules p) (suc i) i (omega arith) (omega (arith, cleaned-length alphabet rules)) args e q l;
  presence = presence alphabet rules p;
  same = cleaned-same alphabet rules;
}
