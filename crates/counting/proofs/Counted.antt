-- The counts of rules by their places, and how those of a rule come from those of lower rules.
use mathlib.Core.Path.{◌≡◌, refl, sym, ◌∙◌, ap, ap₂, subst}
use mathlib.Core.List.{List, [], ◌∷◌, ◌++◌}
use mathlib.Core.Logic.{◌⊎◌, inl, inr}
use Prim.Native.Nat.{ℕ, zero, suc, ◌+◌, ◌*◌, ◌≤◌, ◌<◌}
use native.Mathlib.Nat.{add-zero, eq-or-lt_of_le}
use native.Mathlib.Omega.{arith}
use lib.ListN.{length, get_or, take, drop, length-append, length-take, length-drop, get_or-append}
use lib.Seq.{get_or-take, get_or-append-add, take_at, drop-append-add, sets-eq, drop-drop}
use Rattle.terms.specs.Test.{joined}
use Rattle.terms.specs.Form.{Rule, value_at}
use Rattle.terms.specs.FormBytes.{table_count, table_rule, table_rules}
use Rattle.terms.specs.Count.{own_nodes, nodes_before, capped}
use Rattle.terms.specs.Calls.{counts_per_rule, value_counts, rules_counts}
use Rattle.forms.specs.Private.Table.{ValidTable}
use Rattle.forms.proofs.Rules.{rules-counted, valid-rules, in_rules, rule-is}
use Rattle.counting.specs.Private.Counts.{own_by, before_by, HasCounts, own_in, before_in, counts_written, counts_below, CountedTable, CountedRule}
use Rattle.counting.proofs.Sums.{own-capped, before-capped}

-- the counts of some rules
module _ (rules : List Rule) where
  pub length-below : (n : ℕ) → length (counts_below rules n) ≡ counts_per_rule * n
  unfolding joined
  length-below zero = refl
  length-below (suc n) = omega (arith, length-append (counts_below rules n) (value_counts (value_at rules n)), length-below n)

  pub length-counts : length (rules_counts rules) ≡ counts_per_rule * length rules
  unfolding rules_counts
  length-counts = length-below (length rules)

  -- a count of rule i
  below_at : (n i k : ℕ) → i < n → k < counts_per_rule → get_or (counts_below rules n) (counts_per_rule * i + k) 0 ≡ get_or (value_counts (value_at rules i)) k 0
  unfolding joined
  below_at zero i k h l = absurd (omega arith)
  below_at (suc n) i k h l =
      let most : i ≤ n = omega arith in
      go (eq-or-lt_of_le most) (λ m. below_at n i k m l)
    where
      go : (i ≡ n) ⊎ (i < n) → (i < n → get_or (counts_below rules n) (counts_per_rule * i + k) 0 ≡ get_or (value_counts (value_at rules i)) k 0)
          → get_or (counts_below rules (suc n)) (counts_per_rule * i + k) 0 ≡ get_or (value_counts (value_at rules i)) k 0
      go (inl e) lower =
          let there : counts_per_rule * n + k ≡ length (counts_below rules n) + k = omega (arith, length-below n) in
          let last : get_or (counts_below rules (suc n)) (counts_per_rule * n + k) 0 ≡ get_or (value_counts (value_at rules n)) k 0 =
          rw there (get_or-append-add (counts_below rules n) (value_counts (value_at rules n)) k 0) in
          subst (λ j. get_or (counts_below rules (suc n)) (counts_per_rule * j + k) 0 ≡ get_or (value_counts (value_at rules j)) k 0) (sym e) last
      go (inr m) lower =
          get_or-append (counts_below rules n) (value_counts (value_at rules n)) 0 (counts_per_rule * i + k) (omega (arith, length-below n)) ∙ lower m

  -- numbers that begin with the counts of the rules below n
  module _ (counts : List ℕ) (n : ℕ) (same : take (counts_per_rule * n) counts ≡ counts_below rules n) where
    held_at : (i k : ℕ) → i < n → k < counts_per_rule → get_or counts (counts_per_rule * i + k) 0 ≡ get_or (value_counts (value_at rules i)) k 0
    held_at i k h l =
        sym (get_or-take (counts_per_rule * n) counts (counts_per_rule * i + k) 0 (omega arith)) ∙ ap (λ s. get_or s (counts_per_rule * i + k) 0) same ∙ below_at n i k h l

    pub own_held : (i : ℕ) → i < n → own_in counts i ≡ capped (own_nodes (value_at rules i))
    own_held i h = ap (λ k. get_or counts k 0) (sym (add-zero (counts_per_rule * i))) ∙ held_at i 0 h (omega arith)

    pub before-held : (i : ℕ) → i < n → before_in counts i ≡ capped (nodes_before (value_at rules i))
    before-held i h = held_at i 1 h (omega arith)

  -- where the counts of the rules below n are written, with those of rule n the ones below n + 1 are
  pub counts-more : (numbers : List ℕ) (n : ℕ) → counts_per_rule * n + counts_per_rule ≤ length numbers
      → counts_written (counts_below rules n ++ drop (counts_per_rule * n) numbers) n (value_counts (value_at rules n))
      ≡ counts_below rules (suc n) ++ drop (counts_per_rule * suc n) numbers
  unfolding joined
  counts-more numbers n room =
      let xs = counts_below rules n in
      let vs = value_counts (value_at rules n) in
      let at = counts_per_rule * n in
      let behind = drop at numbers in
      let here : at + counts_per_rule ≡ length xs + counts_per_rule = omega (arith, length-below n) in
      let next : at + counts_per_rule ≡ counts_per_rule * suc n = omega arith in
      let rest : drop (at + counts_per_rule) (xs ++ behind) ≡ drop (counts_per_rule * suc n) numbers =
      ap (λ k. drop k (xs ++ behind)) here ∙ drop-append-add xs behind counts_per_rule ∙ drop-drop counts_per_rule at numbers ∙ ap (λ k. drop k numbers) next in
      sets-eq vs (xs ++ behind) at (omega (arith, length-append xs behind, length-below n, length-drop at numbers))
      ∙ ap (λ (s : List ℕ). s ++ vs ++ drop (at + counts_per_rule) (xs ++ behind)) (take_at xs behind at (length-below n))
      ∙ ap (λ (s : List ℕ). xs ++ vs ++ s) rest

-- a table with the counts of its rules
module _ {alphabet table counts : List ℕ} (known : CountedTable alphabet table counts) where
  abbrev rules : List Rule
  rules = table_rules alphabet table

  pub counts-long : counts_per_rule * table_count table ≤ length counts
  counts-long =
      let all = rules-counted alphabet table known.valid in
      omega (arith, ap length known.counted, length-take (counts_per_rule * table_count table) counts, length-counts rules)

  pub counts-there : (i : ℕ) → i < table_count table → HasCounts counts i
  counts-there i h = omega (arith, counts-long)

  same : take (counts_per_rule * table_count table) counts ≡ counts_below rules (table_count table)
  unfolding rules_counts
  same = known.counted ∙ ap (counts_below rules) (rules-counted alphabet table known.valid)

  pub own-known : (i : ℕ) → i < table_count table → own_in counts i ≡ capped (own_nodes (value_at (table_rules alphabet table) i))
  own-known = own_held rules counts (table_count table) same

  pub before-known : (i : ℕ) → i < table_count table → before_in counts i ≡ capped (nodes_before (value_at (table_rules alphabet table) i))
  before-known = before-held rules counts (table_count table) same

-- what is counted of rule i by the counts of lower rules is what it derives
pub counted-rule : (alphabet table : List ℕ) → ValidTable alphabet table → (counts : List ℕ) (i : ℕ) → i < table_count table
    → take (counts_per_rule * i) counts ≡ counts_below (table_rules alphabet table) i → (n m : ℕ) → CountedRule counts (table_rule alphabet table i) n m
    → n ∷ m ∷ [] ≡ value_counts (value_at (table_rules alphabet table) i)
counted-rule alphabet table v counts i l same n m c =
    let rules = table_rules alphabet table in
    let below = in_rules alphabet table v i l in
    let own = own_held rules counts i same in
    let prior = before-held rules counts i same in
    let r = rule-is alphabet table v i l in
    ap₂ (λ n m. n ∷ m ∷ [])
    (c.own ∙ ap (λ r. capped (own_by (own_in counts) r)) (sym r) ∙ own-capped (valid-rules alphabet table v) i below (own_in counts) (before_in counts) own)
    (c.prior ∙ ap (λ r. capped (before_by (own_in counts) (before_in counts) r)) (sym r) ∙ before-capped (valid-rules alphabet table v) i below (own_in counts) (before_in counts) own prior)
