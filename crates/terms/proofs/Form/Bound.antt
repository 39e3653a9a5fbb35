-- R-6's sum over a grammar as written: at most 19 for every 4 nodes, and so at most 16 for each.
use mathlib.Core.Path.{◌≡◌, ap}
use mathlib.Core.List.{List, [], ◌∷◌}
use Prim.Native.Nat.{ℕ, ◌+◌, ◌*◌, ◌≤◌, ◌<◌}
use native.Mathlib.Omega.{arith}
use native.Mathlib.Decide.{dec_lt}
use lib.ListN.{length, get_or-eq_default}
use Rattle.terms.specs.Tree.{wholes, exactly}
use Rattle.terms.specs.Grammar.{Name, terminal, nonterminal, parameter, nothing, name, Rule, rule_at, rule_rank, name_rank, rank_in, node_count, Proper}
use Rattle.terms.specs.Form.{share, side_bound, form_bound, linear_bound}
use Rattle.terms.proofs.Tree.Whole.{taken}
use Rattle.terms.proofs.Grammar.Sum.{rules_le}

module _ (alphabet : List ℕ) (rules : List Rule) (low : (r : ℕ) → rule_rank rules r ≤ 4) where
  -- a node of rank n: 2 and 11 fourths of n, which a call of a rule of rank 4 takes
  node-share : (x : Name) → 4 * share (rule_rank rules) x ≤ 8 + 11 * name_rank alphabet rules x
  node-share (terminal f) = omega arith
  node-share (nonterminal r) = omega (arith, low r)
  node-share (parameter i) = omega arith
  node-share nothing = omega arith

  -- each node but the roots of n trees is a child of one, so that the ranks sum to the nodes less n
  trees_share : (nodes : List ℕ) (n : ℕ) → wholes (rank_in alphabet rules) nodes ≡ exactly n → 4 * side_bound rules nodes + 11 * n ≤ 19 * length nodes
  unfolding wholes rank_in
  trees_share [] n e = let z : 0 ≡ n = cc in omega arith
  trees_share (m ∷ nodes) n e =
      let t = taken (name_rank alphabet rules (name m)) n (wholes (rank_in alphabet rules) nodes) e in
      omega (arith, node-share (name m), trees_share nodes t.trees t.was, t.enough, t.left)

module _ (alphabet : List ℕ) (rules : List Rule) (p : Proper alphabet rules) where
  ranks_low : (r : ℕ) → rule_rank rules r ≤ 4
  ranks_low r = go (dec_lt r (length rules))
    where
      go : Dec (r < length rules) → rule_rank rules r ≤ 4
      go (yes h) = (p.proper r h).rank
      go (no h) = omega (arith, ap (λ (x : Rule). x.rank) (get_or-eq_default rules (record { rank = 0; nodes = [] }) {n = r} (omega arith)))

  pub bound-few : 4 * form_bound rules ≤ 19 * node_count rules
  bound-few = rules_le (λ r. side_bound rules r.nodes) (λ r. length r.nodes) 4 19 rules
      (λ i h. omega (arith, trees_share alphabet rules ranks_low (rule_at rules i).nodes 1 (p.proper i h).whole))

  pub bound-linear : form_bound rules ≤ linear_bound rules
  bound-linear = omega (arith, bound-few)
