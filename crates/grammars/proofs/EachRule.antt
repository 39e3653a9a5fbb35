-- The rules one after another: what the checks of the first rules have shown.
use mathlib.Core.Path.{◌≡◌, sym, ◌∙◌, ap}
use mathlib.Core.Bool.{not}
use mathlib.Core.List.{List, []}
use Prim.Native.Nat.{ℕ, ◌+◌, ◌*◌, ◌-◌, ◌<◌, ◌≤◌}
use native.Mathlib.Omega.{arith}
use borrow.Author.Count.{below_more}
use lib.Dec.{eqb}
use lib.ListN.{length, get_or, set, length-set}
use lib.Seq.{get_or-set_same, get_or-set_other}
use Rattle.terms.specs.Refusal.{◌when◌}
use Rattle.terms.specs.Grammar.{Rule, node_count, rule_at, rule_rank, sum_rules}
use Rattle.terms.specs.Form.{side_bound, form_bound}
use Rattle.terms.specs.Sheet.{rules_body}
use Rattle.terms.specs.Check.{most_rules, most_nodes, rule_refusal}
use Rattle.grammars.specs.Rules.{seen_from, rule_reading, reading, each_refusal}
use Rattle.terms.specs.Answer.{refused, answered}
use Rattle.terms.proofs.Refusal.{stops, or_none, none-refused, first-refused}
use Rattle.nodes.proofs.Node.{rank-known}
use Rattle.grammars.proofs.Turns.{Left, none-read, Turn, read-all}
use Rattle.grammars.proofs.Rule.{rule_seen, rank_seen, same-reading, answer-refuses, answer_takes}
use Rattle.grammars.proofs.Reading.{refusal_read}

-- the sum over rules of a grammar
abbrev sum_of : List Rule → List Rule → ℕ
sum_of grammar rules = sum_rules (λ r. side_bound grammar r.nodes) rules

-- the rules of a body before rule i, behind which the others are left: their ranks are known, none is refused, and their nodes take so many rules of a form; each of them has fewer
-- than 256 nodes, and a node takes fewer than 1,024
pub record Checked (alphabet body ranks : List ℕ) (asked : ℕ) (left : List ℕ) (i : ℕ) : Type 0 where
  pub read : Left body i left
  pub size : length ranks ≡ most_rules
  pub lower : (k : ℕ) → k < i → rule_rank (rules_body body).rules k ≡ get_or ranks k 0
  pub passed : (k : ℕ) → k < i → rule_refusal alphabet (rules_body body).rules k ≡ 0
  pub small : asked ≤ 1024 * 256 * i
  pub sum : form_bound (rules_body body).rules ≡ asked + sum_of (rules_body body).rules (rules_body left).rules

pub none_checked : (alphabet body ranks : List ℕ) → length ranks ≡ most_rules → Checked alphabet body ranks 0 body 0
none_checked alphabet body ranks size = record {
  read = none-read body;
  size = size;
  lower = λ k h. absurd (omega arith);
  passed = λ k h. absurd (omega arith);
  small = omega arith;
  sum = omega arith;
}

module _ {alphabet body ranks left : List ℕ} {asked i : ℕ} (c : Checked alphabet body ranks asked left i) where
  abbrev rules : List Rule
  rules = (rules_body body).rules

  -- there are few rules
  pub few-left : length rules ≤ most_rules → i + length (rules_body left).rules ≤ most_rules
  few-left few = omega (arith, c.read.count)

  module _ {rule : Rule} {later : List ℕ} (t : Turn body i left rule later) where
    -- a right side has few nodes
    pub few-nodes : node_count rules ≤ most_nodes → length rule.nodes < 256
    few-nodes few = omega (arith, t.parted, c.read.nodes)

    -- rule i is refused
    pub rule-refused : {n : ℕ} → refused n ≡ rule_reading alphabet rules i → refused n ≡ reading (each_refusal alphabet rules) rules
    rule-refused e =
        let (same, h) = answer-refuses (rule_refusal alphabet rules i) (side_bound rules (rule_at rules i).nodes) e in
        let first : each_refusal alphabet rules ≡ rule_refusal alphabet rules i = rw (first-refused (length rules) (rule_refusal alphabet rules) i t.inside c.passed h) (stops (rule_refusal alphabet rules i) _ h) in
        rw (first, same) (refusal_read (rule_refusal alphabet rules i) rules h)

    module _ (few : length rules ≤ most_rules) where
      room : i < length ranks
      room = omega (arith, c.size, t.inside)

      -- the check of rule i from the known ranks is that from the rules
      pub rule_check : rule_reading alphabet (seen_from ranks i rule.rank rule.nodes) i ≡ rule_reading alphabet rules i
      rule_check =
          let nodes = rule.nodes in
          sym (same-reading alphabet rules (seen_from ranks i rule.rank nodes) i
          (λ k l. c.lower k l ∙ sym (rank-known ranks k) ∙ sym (rank_seen alphabet ranks i rule.rank nodes room k l))
          (t.here ∙ sym (rule_seen alphabet ranks i rule.rank nodes room)))

      -- rule i passes
      pub rule_checked : {takes : ℕ} → answered takes ≡ rule_reading alphabet rules i → takes ≤ 1024 * 256 → Checked alphabet body (set ranks i rule.rank) (asked + takes) later (i + 1)
      rule_checked e few-taken =
          let (none, same) = answer_takes (rule_refusal alphabet rules i) (side_bound rules (rule_at rules i).nodes) e in
          record {
            read = t.next;
            size = length-set ranks i _ ∙ c.size;
            lower = below_more _ i (λ k l. c.lower k l ∙ sym (get_or-set_other ranks i k _ 0 (λ q. omega arith)))
                (ap (λ (r : Rule). r.rank) t.here ∙ sym (get_or-set_same ranks i _ 0 room));
            passed = below_more _ i c.passed none;
            small = omega (arith, c.small);
            sum = omega (arith, c.sum, same, ap (sum_of rules) t.first, ap (λ (r : Rule). side_bound rules r.nodes) t.here);
          }

  -- all n rules pass
  module _ {n : ℕ} (e : n ≡ length rules) (h : 0 < n) (none : (rules_body left).rules ≡ []) where
    all-read : length rules ≡ i
    all-read = read-all c.read none

    pub all_checked : each_refusal alphabet rules ≡ 13 when (not (eqb (get_or ranks (n - 1) 0) 0))
    all_checked =
        let z = none-refused (length rules) (rule_refusal alphabet rules) (λ k m. c.passed k (omega (arith, all-read))) in
        rw (z, ← e, c.lower (n - 1) (omega (arith, all-read))) (or_none _)

    pub all_asked : answered (record { count = n; asked = asked }) ≡ reading 0 rules
    all_asked =
        let sum : form_bound rules ≡ asked = c.sum ∙ rw none (omega arith) in
        rw (e, sum)
