-- The rules body of a cleaned grammar, rule by rule.
use mathlib.Core.Path.{◌≡◌, ◌∙◌, ap}
use mathlib.Core.List.{List, [], ◌∷◌, ◌++◌, map, map-append}
use Prim.Native.Nat.{ℕ, suc}
use Rattle.terms.specs.Grammar.{Rule}
use Rattle.terms.specs.Sheet.{written_rule, written_rules}
use Rattle.terms.proofs.Sheet.Rules.{rules-append}
use Rattle.cleaning_terms.specs.Cleaning.{sifted_rules, renumbered, rule_sifted}

module _ (alphabet : List ℕ) (rules : List Rule) where
  -- the body of the first k rules, cleaned
  abbrev pub body_upto : ℕ → List ℕ
  body_upto k = written_rules (map renumbered (sifted_rules alphabet rules k))

  -- and of one rule more
  pub body-next : (k : ℕ) → body_upto (suc k) ≡ body_upto k ++ written_rule (renumbered (rule_sifted alphabet rules k))
  unfolding sifted_rules
  body-next k =
      let sifted = sifted_rules alphabet rules k in
      let r = rule_sifted alphabet rules k in
      ap written_rules (map-append renumbered sifted (r ∷ [])) ∙ rules-append (map renumbered sifted) (renumbered r)
