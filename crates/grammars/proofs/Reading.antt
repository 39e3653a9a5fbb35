-- From the counts of a rules body to the table of its refusals, 5 to 13.
use mathlib.Core.Path.{◌≡◌, refl, ap}
use mathlib.Core.Bool.{Bool, true, false}
use mathlib.Core.List.{List}
use Prim.Native.Nat.{ℕ, zero, suc}
use lib.Dec.{ltb, eqb}
use lib.ListN.{length}
use Rattle.terms.specs.Refusal.{or_else, ◌when◌}
use Rattle.terms.specs.Grammar.{Rule, node_count}
use Rattle.terms.specs.Sheet.{rules_body}
use Rattle.std.proofs.Common.{Some, None}
use Rattle.terms.specs.Answer.{refused}
use Rattle.terms.specs.Check.{most_rules, most_nodes, rules_refusal}
use Rattle.grammars.specs.Rules.{body_counts, reading, each_refusal}
use Rattle.grammars.specs.declared.rules.Counts.{Counts}

-- a refusal is the answer
pub refusal_read : (n : ℕ) (rules : List Rule) → (n ≡ 0 → ⊥) → refused n ≡ reading n rules
refusal_read zero rules h = absurd (h refl)
refusal_read (suc n) rules h = refl

-- where nothing is counted, the body does not end where a rule ends
pub not-counted : (alphabet body : List ℕ) → None ≡ body_counts (rules_body body) → rules_refusal alphabet body ≡ 5
unfolding rules_refusal
not-counted alphabet body none = go (rules_body body).ends refl
  where
    go : (ends : Bool) → (rules_body body).ends ≡ ends → rules_refusal alphabet body ≡ 5
    go true t = absurd (let e = rw t at none in cc)
    go false t = rw t

module _ (body : List ℕ) {counts : Counts} (counted : Some counts ≡ body_counts (rules_body body)) where
  -- where rules are counted, they are all, and the body ends where a rule ends
  all-counted : ((rules_body body).ends ≡ true) × (counts ≡ record { rules = length (rules_body body).rules; nodes = node_count (rules_body body).rules })
  all-counted = go (rules_body body).ends refl
    where
      go : (ends : Bool) → (rules_body body).ends ≡ ends
          → ((rules_body body).ends ≡ true) × (counts ≡ record { rules = length (rules_body body).rules; nodes = node_count (rules_body body).rules })
      go true t = (t, (let e = rw t at counted in cc))
      go false t = absurd (let e = rw t at counted in cc)

  -- the rows of the table, by the counts
  abbrev rows : List ℕ → ℕ
  rows alphabet = or_else (5 when (eqb counts.rules 0)) (or_else (6 when (ltb most_rules counts.rules)) (or_else (7 when (ltb most_nodes counts.nodes))
      (each_refusal alphabet (rules_body body).rules)))

  abbrev rules_of_counts : Counts → ℕ
  rules_of_counts c = c.rules

  abbrev nodes_of_counts : Counts → ℕ
  nodes_of_counts c = c.nodes

  -- they are the table's
  pub table : (alphabet : List ℕ) → rules_refusal alphabet body ≡ rows alphabet
  unfolding rules_refusal
  table alphabet =
      let (ends, all) = all-counted in
      rw (ends, ap rules_of_counts all, ap nodes_of_counts all)
