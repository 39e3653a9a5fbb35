-- What a rule of a valid table has of its own, by its kind.
use mathlib.Core.Logic.{◌⊎◌, inl, inr}
use mathlib.Core.Path.{◌≡◌, refl, sym, ◌∙◌, ap}
use mathlib.Core.List.{List, [], ◌∷◌, ◌++◌, append_assoc}
use Prim.Native.Nat.{ℕ, suc, ◌+◌, ◌-◌, ◌≤◌, ◌<◌}
use native.Mathlib.Nat.{eq-or-lt_of_le}
use native.Mathlib.Omega.{arith}
use lib.ListN.{length, set, length-append}
use lib.Seq.{sets}
use Rattle.terms.specs.Grammar.{terminal_rank}
use Rattle.terms.specs.Form.{Rule, filled, composed, Value, rule_at, holes, Has, Slots, Fits, Valid}
use Rattle.terms.specs.FormBytes.{table_count, rule_byte, slot_of, table_rule, table_rules}
use Rattle.counting.specs.Private.Symbols.{symbols_before, symbols_after}
use Rattle.counting.proofs.Symbols.{tree-before, tree-after}
use Rattle.counting.proofs.OfRule.{rule_before, rule_after, own-before, own-after}
use Rattle.counting.specs.Private.Counts.{slots_from, CountedTable}
use Rattle.writing.specs.Writing.{spliced, value_in, symbols_in, rule_written}
use Rattle.writing.proofs.write.Splice.{no_gap, chained, node-whole, node-pierced}
use Rattle.counting.proofs.Slots.{slots-all}
use Rattle.forms.proofs.Rules.{valid-rules, rank-low, in_rules, rule-is, fits, is_whole, is-pierced, is-filled, is-composed, hole-within}

module _ (alphabet table : List ℕ) (i : ℕ) where
  abbrev rules : List Rule
  rules = table_rules alphabet table

  abbrev value : ℕ → Value
  value = value_in alphabet table

  -- what is known of B(C) and B(C(y)), where B is rule b and C is rule c. Where there is no open place, there is no gap.
  pub record Chain (b c : ℕ) : Type 0 where
    pub root : Has rules i 1 b
    pub inner : Has rules i (holes (rule_at rules i)) c
    pub long : length (symbols_before (value i)) + length (symbols_after (value i))
        ≡ length (symbols_before (value b)) + (length (symbols_before (value c)) + length (symbols_after (value c))) + length (symbols_after (value b))
    pub shape : (l : List ℕ) (at gap : ℕ) → (holes (rule_at rules i) ≡ 0 → gap ≡ 0)
        → rule_written alphabet table i l at gap
        ≡ spliced l at (symbols_before (value b) ++ symbols_before (value c)) gap (symbols_after (value c) ++ symbols_after (value b))

  -- what is known of f(A1..An)
  pub record Whole (f n : ℕ) : Type 0 where
    pub few : n ≤ 4
    pub slots : Slots rules i (slots_from (slot_of table i) 0 n)
    pub first : symbols_before (value i) ≡ f ∷ symbols_in alphabet table i 0 n
    pub last : symbols_after (value i) ≡ []

  -- what is known of f(A1..An) with the open place at child h
  pub record Pierced (f n h : ℕ) : Type 0 where
    pub few : n ≤ 4
    pub some : 1 ≤ h
    pub within : h ≤ n
    pub slots-before : Slots rules i (slots_from (slot_of table i) 0 (h - 1))
    pub slots-after : Slots rules i (slots_from (slot_of table i) h n)
    pub first : symbols_before (value i) ≡ f ∷ symbols_in alphabet table i 0 (h - 1)
    pub last : symbols_after (value i) ≡ symbols_in alphabet table i h n

  -- What is in the list once the parts are written.

  pub chain-written : {b c : ℕ} → Chain b c → (l l' l'' : List ℕ) (at m n gap : ℕ) → (holes (rule_at rules i) ≡ 0 → gap ≡ 0)
      → m ≡ length (symbols_before (value b)) → n ≡ length (symbols_before (value c)) + length (symbols_after (value c))
      → l' ≡ rule_written alphabet table b l at (n + gap)
      → l'' ≡ rule_written alphabet table c l' (at + m) gap
      → l'' ≡ rule_written alphabet table i l at gap
  chain-written {b} {c} both l l' l'' at m n gap shut size size' e e' =
      chained l l' l'' at m n gap (symbols_before (value b)) (symbols_after (value b)) (symbols_before (value c)) (symbols_after (value c)) size size' e e'
      ∙ sym (both.shape l at gap shut)

  pub whole-written : {f n : ℕ} → Whole f n → (l l' : List ℕ) (at gap : ℕ) → l' ≡ sets (set l at f) (at + 1) (symbols_in alphabet table i 0 n)
      → l' ≡ rule_written alphabet table i l at gap
  whole-written {f} {n} node l l' at gap e = rw (node.first, node.last) (node-whole l l' at f (symbols_in alphabet table i 0 n) e)

  pub pierced-written : {f n h : ℕ} → Pierced f n h → (l l' l'' : List ℕ) (at end gap : ℕ)
      → l' ≡ sets (set l at f) (at + 1) (symbols_in alphabet table i 0 (h - 1))
      → end ≡ at + 1 + length (symbols_in alphabet table i 0 (h - 1))
      → l'' ≡ sets l' (end + gap) (symbols_in alphabet table i h n)
      → l'' ≡ rule_written alphabet table i l at gap
  pierced-written {f} {n} {h} node l l' l'' at end gap e place e' =
      rw (node.first, node.last)
      (node-pierced l l' l'' at f end gap (symbols_in alphabet table i 0 (h - 1)) (symbols_in alphabet table i h n) e place e')

  module _ (counts : List ℕ) (known : CountedTable alphabet table counts) (below : i < table_count table) where
    valid : Valid alphabet rules
    valid = valid-rules alphabet table known.valid

    low : i < length rules
    low = in_rules alphabet table known.valid i below

    module _ (r : Rule) (is : table_rule alphabet table i ≡ r) where
      rule_at_lem : rule_at rules i ≡ r
      rule_at_lem = rule-is alphabet table known.valid i below ∙ is

      names : Fits alphabet rules i r
      names = rw is at (fits alphabet table known.valid i below)

      before-is : symbols_before (value i) ≡ rule_before value r
      before-is = own-before valid i low ∙ ap (rule_before value) rule_at_lem

      after_is : symbols_after (value i) ≡ rule_after value r
      after_is = own-after valid i low ∙ ap (rule_after value) rule_at_lem

    filled-chain : (b c : ℕ) → table_rule alphabet table i ≡ filled b c → Chain b c
    filled-chain b c e =
        let (root, inner) = names (filled b c) e in
        let none = tree-after valid i (omega (arith, low)) c inner in
        let all = tree-before valid i (omega (arith, low)) c inner in
        let first = before-is (filled b c) e in
        let last = after_is (filled b c) e in
        record {
          root = root;
          inner = rw (rule_at_lem (filled b c) e) inner;
          long = rw (first, last, none, all) (simp length-append (omega arith));
          shape = λ l at gap shut. rw (first, last, none, all, shut (ap holes (rule_at_lem (filled b c) e)), no_gap) (rw append_assoc);
        }

    composed-chain : (b c : ℕ) → table_rule alphabet table i ≡ composed b c → Chain b c
    composed-chain b c e =
        let (root, inner) = names (composed b c) e in
        let first = before-is (composed b c) e in
        let last = after_is (composed b c) e in
        record {
          root = root;
          inner = rw (rule_at_lem (composed b c) e) inner;
          long = rw (first, last) (simp length-append (omega arith));
          shape = λ l at gap shut. rw (first, last);
        }

    abbrev terminal : ℕ
    terminal = rule_byte table i 1

    abbrev rank : ℕ
    rank = terminal_rank alphabet terminal

    abbrev hole : ℕ
    hole = rule_byte table i 2

    abbrev slot : ℕ → ℕ
    slot = slot_of table i

    pub chain : {b c : ℕ} → b ≡ slot 0 → c ≡ slot 1 → 2 ≤ rule_byte table i 0 → Chain b c
    chain e e' two = rw (e, e') (go (eq-or-lt_of_le two))
      where
        go : (2 ≡ rule_byte table i 0) ⊎ (2 < rule_byte table i 0) → Chain (slot 0) (slot 1)
        go (inl e) = filled-chain (slot 0) (slot 1) (is-filled alphabet table known.valid i below (sym e))
        go (inr g) = composed-chain (slot 0) (slot 1) (is-composed alphabet table known.valid i below g)

    pub whole-node : {f n : ℕ} → f ≡ terminal → n ≡ terminal_rank alphabet terminal → rule_byte table i 0 ≡ 0 → Whole f n
    whole-node e e' kind =
        let is = rw (← slots-all slot rank) at (is_whole alphabet table known.valid i below kind) in
        rw (e', e)
        record {
          few = rank-low alphabet table known.valid terminal;
          slots = (names _ is).0;
          first = before-is _ is;
          last = after_is _ is;
        }

    pub pierced-node : {f n h : ℕ} → f ≡ terminal → n ≡ terminal_rank alphabet terminal → h ≡ hole → rule_byte table i 0 ≡ 1 → Pierced f n h
    pierced-node e e' e'' kind =
        let is = rw (← slots-all slot (hole - 1)) at (is-pierced alphabet table known.valid i below kind) in
        let (some, within) = hole-within alphabet table known.valid i below kind in
        rw (e', e, e'')
        record {
          few = rank-low alphabet table known.valid terminal;
          some = some;
          within = within;
          slots-before = (names _ is).0;
          slots-after = (names _ is).1;
          first = before-is _ is;
          last = after_is _ is;
        }

    -- a rule of kind 0 or 1 has its terminal first
    pub node-first : rule_byte table i 0 < 2 → (rest : List ℕ) × (symbols_before (value i) ≡ terminal ∷ rest)
    node-first few = go (eq-or-lt_of_le few)
      where
        go : (suc (rule_byte table i 0) ≡ 2) ⊎ (suc (rule_byte table i 0) < 2) → (rest : List ℕ) × (symbols_before (value i) ≡ terminal ∷ rest)
        go (inl e) = (_, (pierced-node refl refl refl (omega arith)).first)
        go (inr h) = (_, (whole-node refl refl (omega arith)).first)

    pub node-some : rule_byte table i 0 < 2 → 0 < length (symbols_before (value i))
    node-some few = let (rest, first) = node-first few in rw first (omega arith)
