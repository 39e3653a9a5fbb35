-- Rules that are written are read again.
use mathlib.Core.Path.{◌≡◌, refl, sym, ◌∙◌, ap}
use mathlib.Core.Bool.{true}
use mathlib.Core.List.{List, [], ◌∷◌, ◌++◌, append_assoc, append-nil}
use Prim.Native.Nat.{ℕ, zero, suc, ◌≤◌}
use native.Mathlib.Omega.{arith}
use lib.ListN.{length, length-append}
use lib.Seq.{take-append_seam, drop-append_seam}
use borrow.Author.Tests.{le-leb}
use Rattle.terms.specs.Grammar.{Rule}
use Rattle.terms.specs.Sheet.{RulesBody, read_rules, rules_body, written_rule, written_rules}

abbrev read : List Rule → RulesBody
read rules = record { rules = rules; ends = true }

read-written : (rules : List Rule) (k : ℕ) → length (written_rules rules) ≤ k → read_rules k (written_rules rules) ≡ read rules
unfolding read_rules written_rules
read-written [] zero h = refl
read-written [] (suc k) h = refl
read-written (r ∷ rules) zero h = absurd (omega arith)
read-written (r ∷ rules) (suc k) h =
    let ns = r.nodes in
    let bs = written_rules rules in
    rw (le-leb (length ns) (length (ns ++ bs)) (omega (arith, length-append ns bs)), take-append_seam ns bs, drop-append_seam ns bs, read-written rules k (omega (arith, length-append ns bs)))

pub rules-read : (rules : List Rule) → rules_body (written_rules rules) ≡ read rules
unfolding rules_body
rules-read rules = read-written rules (length (written_rules rules)) (omega arith)

-- one rule more
pub rules-append : (rs : List Rule) (r : Rule) → written_rules (rs ++ (r ∷ [])) ≡ written_rules rs ++ written_rule r
unfolding written_rules
rules-append [] r = append-nil (written_rule r)
rules-append (s ∷ rs) r = ap (λ bs. written_rule s ++ bs) (rules-append rs r) ∙ sym (append_assoc (written_rule s) (written_rules rs) (written_rule r))
