-- Where a position of a rule falls, by the rule's kind and the counts that are lent.
use mathlib.Core.Path.{◌≡◌, sym, ◌∙◌, subst}
use mathlib.Core.Logic.{◌⊎◌, inl, inr}
use mathlib.Core.List.{List}
use Prim.Native.Nat.{ℕ, ◌+◌, ◌-◌, ◌*◌, ◌≤◌, ◌<◌}
use native.Mathlib.Nat.{eq-or-lt_of_le}
use native.Mathlib.Omega.{arith}
use lib.ListN.{length}
use Rattle.terms.specs.Test.{tabulate}
use Rattle.terms.specs.Grammar.{terminal_rank}
use Rattle.terms.specs.Form.{Value, pierced, value_at, rule_at, Has, Valid}
use Rattle.terms.specs.FormBytes.{table_count, rule_byte, slot_of, table_rule, table_rules}
use Rattle.terms.specs.Count.{own_nodes, nodes_before, capped}
use Rattle.terms.specs.Calls.{counts_per_rule}
use Rattle.counting.specs.Private.Symbols.{own_symbols}
use Rattle.counting.proofs.Symbols.{around}
use Rattle.places.proofs.Descent.{root-whole, root-pierced, lies_whole, lies_left, lies_right, lies_before, lies_inside, lies_after, filled_around, composed-around}
use Rattle.counting.specs.Private.Counts.{CountedTable, own_in, before_in, slots_from}
use Rattle.places.specs.Position.{place_in, symbol_at, Position, Lies}
use Rattle.counting.proofs.Slots.{slots-all}
use Rattle.forms.proofs.Rules.{valid-rules, in_rules, rule-is, is_whole, is-pierced, is-filled, is-composed, filled_names, composed_names}
use Rattle.counting.proofs.Counted.{counts-long, own-known, before-known}

module _ {alphabet table counts : List ℕ} (known : CountedTable alphabet table counts) {i p : ℕ} (at : Position alphabet table i p) where
  abbrev value : ℕ → Value
  value = value_at (table_rules alphabet table)

  abbrev slot : ℕ → ℕ
  slot = slot_of table i

  abbrev kind : ℕ
  kind = rule_byte table i 0

  abbrev n : ℕ
  n = terminal_rank alphabet (rule_byte table i 1)

  abbrev h : ℕ
  h = rule_byte table i 2

  valid : Valid alphabet (table_rules alphabet table)
  valid = valid-rules alphabet table known.valid

  below : i < length (table_rules alphabet table)
  below = in_rules alphabet table known.valid i at.rule

  is : rule_at (table_rules alphabet table) i ≡ table_rule alphabet table i
  is = rule-is alphabet table known.valid i at.rule

  -- the counts of every rule are there

  pub room : counts_per_rule * i ≤ length counts
  room = omega (arith, counts-long known, at.rule)

  own_below : (a : ℕ) → a < i → own_in counts a ≡ capped (own_nodes (value a))
  own_below a l = own-known known a (omega (arith, at.rule))

  -- kinds 0 and 1: the terminal, and the slots

  pub root_is : kind < 2 → p ≡ 0 → rule_byte table i 1 ≡ symbol_at alphabet table i p
  root_is k z =
      let l : kind ≤ 1 = omega arith in
      go (eq-or-lt_of_le l)
    where
      go : (kind ≡ 1) ⊎ (kind < 1) → rule_byte table i 1 ≡ symbol_at alphabet table i p
      go (inl e) = sym (root-pierced valid i below p at.within _ _ _ (is ∙ is-pierced alphabet table known.valid i at.rule e) z)
      go (inr l) = sym (root-whole valid i below p at.within _ _ (is ∙ is_whole alphabet table known.valid i at.rule (omega arith)) z)

  module _ (z : 0 < p) (a q : ℕ) where
    lies_at : (x : ℕ × ℕ) → (a, q) ≡ x → Lies alphabet table i p x.0 x.1 → Lies alphabet table i p a q
    lies_at x e l = subst (λ (y : ℕ × ℕ). Lies alphabet table i p y.0 y.1) (sym e) l

    pub lies_in_whole : kind ≡ 0 → (a, q) ≡ place_in (own_in counts) (slots_from slot 0 n) (p - 1) → Lies alphabet table i p a q
    lies_in_whole k e =
        let r = is ∙ is_whole alphabet table known.valid i at.rule k in
        lies_at _ (rw (slots-all slot n) at e) (lies_whole valid i below p at.within (own_in counts) own_below z _ _ r)

    module _ (k : kind ≡ 1) where
      r : rule_at (table_rules alphabet table) i ≡ pierced (rule_byte table i 1) (tabulate (h - 1) slot) (tabulate (n - h) (λ j. slot (h + j)))
      r = is ∙ is-pierced alphabet table known.valid i at.rule k

      pub lies_in_left : p < before_in counts i → (a, q) ≡ place_in (own_in counts) (slots_from slot 0 (h - 1)) (p - 1) → Lies alphabet table i p a q
      lies_in_left b e =
          lies_at _ (rw (slots-all slot (h - 1)) at e)
          (lies_left valid i below p at.within (own_in counts) own_below z _ _ _ r (before_in counts i) (before-known known i at.rule) b)

      pub lies_in_right : before_in counts i ≤ p → (a, q) ≡ place_in (own_in counts) (slots_from slot h n) (p - before_in counts i) → Lies alphabet table i p a q
      lies_in_right b e =
          lies_at _ e (lies_right valid i below p at.within (own_in counts) own_below z _ _ _ r (before_in counts i) (before-known known i at.rule) b)

  -- kinds 2 and 3: B with C inside
  module _ (k : 2 ≤ kind) where
    -- B and C are lower rules, B of rank 1
    record Chain : Type 0 where
      outer : Has (table_rules alphabet table) i 1 (slot 0)
      inner : slot 1 < i
      symbols : own_symbols (value i) ≡ around (value (slot 0)) (value (slot 1))

    chain : Chain
    chain = go (eq-or-lt_of_le k)
      where
        go : (2 ≡ kind) ⊎ (2 < kind) → Chain
        go (inl e) =
            let p2 = filled_names alphabet table known.valid i at.rule (sym e) in
            record { outer = p2.0; inner = p2.1.below; symbols = filled_around valid i below p at.within _ _ (is ∙ is-filled alphabet table known.valid i at.rule (sym e)) }
        go (inr g) =
            let p3 = composed_names alphabet table known.valid i at.rule g in
            record { outer = p3.0; inner = p3.1.below; symbols = composed-around valid i below p at.within _ _ (is ∙ is-composed alphabet table known.valid i at.rule g) }

    pub outer_there : slot 0 < table_count table
    outer_there = omega (arith, chain.outer.below, at.rule)

    pub inner_there : slot 1 < table_count table
    inner_there = omega (arith, chain.inner, at.rule)

    abbrev prior : ℕ
    prior = before_in counts (slot 0)

    abbrev own : ℕ
    own = own_in counts (slot 1)

    prior-is : prior ≡ capped (nodes_before (value (slot 0)))
    prior-is = before-known known (slot 0) (omega (arith, chain.outer.below, at.rule))

    inner_is : own ≡ capped (own_nodes (value (slot 1)))
    inner_is = own_below (slot 1) chain.inner

    pub lies_in_front : p < prior → Lies alphabet table i p (slot 0) p
    lies_in_front b = lies_before valid i below p at.within _ _ chain.outer chain.inner chain.symbols prior own prior-is inner_is b

    pub lies_in_inner : prior ≤ p → p - prior < own → Lies alphabet table i p (slot 1) (p - prior)
    lies_in_inner b c = lies_inside valid i below p at.within _ _ chain.outer chain.inner chain.symbols prior own prior-is inner_is b c

    pub lies_behind : prior ≤ p → own ≤ p - prior → Lies alphabet table i p (slot 0) (p - own)
    lies_behind b c = lies_after valid i below p at.within _ _ chain.outer chain.inner chain.symbols prior own prior-is inner_is b c
