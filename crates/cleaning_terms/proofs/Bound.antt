-- Cleaning adds no node, and no rule to the bound on a form.
use mathlib.Core.Path.{ap}
use mathlib.Core.Bool.{Bool, true}
use mathlib.Core.List.{List, [], ◌∷◌}
use Prim.Native.Nat.{ℕ, ◌≤◌, ◌<◌}
use native.Mathlib.Omega.{arith}
use lib.ListN.{length, length-map}
use Rattle.terms.specs.Grammar.{Name, terminal, nonterminal, parameter, nothing, name, Rule, rule_at, rule_rank, sum_over, sum_rules, node_count}
use Rattle.terms.specs.Form.{share, form_bound}
use Rattle.terms.proofs.Grammar.Sum.{sum_le, sum-rules}
use Rattle.cleaning_terms.specs.Cleaning.{present, sift, sifted_rules, numbered, renumbered, cleaned, rule_sifted}
use Rattle.cleaning_terms.proofs.Each.{sum_over_image_le}
use Rattle.cleaning_terms.proofs.Names.{renamed, name-numbered}
use Rattle.cleaning_terms.proofs.Sift.{sift-length, sift-sum}
use Rattle.cleaning_terms.proofs.Sifted.{cleaned-length, cleaned_at, cleaned_rank_le}

share_renamed : (g h : ℕ → ℕ) → ((r : ℕ) → g r ≤ h r) → (flags : List Bool) (x : Name) → share g (renamed flags x) ≤ share h x
share_renamed g h le flags (terminal f) = omega arith
share_renamed g h le flags (nonterminal r) = omega (arith, le r)
share_renamed g h le flags (parameter j) = omega arith
share_renamed g h le flags nothing = omega arith

module _ (alphabet : List ℕ) (rules : List Rule) where
  over_rules_le : (g h : Rule → ℕ) → ((i : ℕ) → i < length rules → g (rule_at (cleaned alphabet rules) i) ≤ h (rule_at rules i))
      → sum_rules g (cleaned alphabet rules) ≤ sum_rules h rules
  over_rules_le g h le =
      let s = sum-rules g (cleaned alphabet rules) in
      let t = rw (cleaned-length alphabet rules) at s in
      omega (arith, t, sum-rules h rules, sum_le (length rules) (λ i. g (rule_at (cleaned alphabet rules) i)) (λ i. h (rule_at rules i)) le)

  -- rule by rule no more nodes than as written
  pub cleaned-nodes : (i : ℕ) → i < length rules → length (rule_at (cleaned alphabet rules) i).nodes ≤ length (rule_at rules i).nodes
  unfolding renumbered
  cleaned-nodes i h =
      let ms = sift alphabet (sifted_rules alphabet rules i) (true ∷ []) (rule_at rules i).nodes in
      let f : ℕ → ℕ = λ m. numbered (present (rule_sifted alphabet rules i)) m (name m) in
      omega (arith, ap (λ (r : Rule). length r.nodes) (cleaned_at alphabet rules i h), length-map ms f, sift-length alphabet (sifted_rules alphabet rules i) (true ∷ []) (rule_at rules i).nodes)

  pub cleaned_node_count : node_count (cleaned alphabet rules) ≤ node_count rules
  cleaned_node_count = over_rules_le (λ r. length r.nodes) (λ r. length r.nodes) cleaned-nodes

  share-rule : (i : ℕ) → i < length rules
      → sum_over (share (rule_rank (cleaned alphabet rules))) (rule_at (cleaned alphabet rules) i).nodes ≤ sum_over (share (rule_rank rules)) (rule_at rules i).nodes
  unfolding renumbered
  share-rule i h =
      let g = share (rule_rank (cleaned alphabet rules)) in
      let k = share (rule_rank rules) in
      let flags = present (rule_sifted alphabet rules i) in
      let ms = sift alphabet (sifted_rules alphabet rules i) (true ∷ []) (rule_at rules i).nodes in
      let le : (m : ℕ) → g (name (numbered flags m (name m))) ≤ k (name m) = λ m.
      rw (name-numbered flags m) (share_renamed (rule_rank (cleaned alphabet rules)) (rule_rank rules) (cleaned_rank_le alphabet rules) flags (name m)) in
      omega (
        arith,
        ap (λ (r : Rule). sum_over g r.nodes) (cleaned_at alphabet rules i h),
        sum_over_image_le g k (λ m. numbered flags m (name m)) le ms,
        sift-sum alphabet (sifted_rules alphabet rules i) k (true ∷ []) (rule_at rules i).nodes,
      )

  -- R-6's sum over the cleaned grammar is at most that over the grammar as written
  pub cleaned-bound : form_bound (cleaned alphabet rules) ≤ form_bound rules
  cleaned-bound = over_rules_le (λ r. sum_over (share (rule_rank (cleaned alphabet rules))) r.nodes) (λ r. sum_over (share (rule_rank rules)) r.nodes) share-rule
