-- The entry of a rule that was read from a valid table: by its kind, from the entries of its slots.
use mathlib.Core.Path.{◌≡◌, refl, ap, sym, subst, ◌∙◌}
use mathlib.Core.List.{List, [], ◌∷◌, ◌++◌}
use Prim.Native.Nat.{ℕ, zero, suc, ◌+◌, ◌-◌, ◌%◌, ◌≤◌, ◌<◌}
use native.Mathlib.Omega.{arith}
use lib.ListN.{length, take}
use Rattle.terms.specs.Test.{tabulate}
use Rattle.terms.specs.Grammar.{terminal_rank}
use Rattle.terms.specs.Form.{Rule, Fits}
use Rattle.terms.specs.Relation.{states_at, relation_of, apply_bits, compose_bits}
use Rattle.terms.specs.Sheet.{transitions_of}
use Rattle.terms.specs.FormBytes.{table_count, slot_of, rule_of_kind, table_rule, table_rules}
use Rattle.terms.proofs.Tabulate.{length-tabulate, take-tabulate, tabulate_at}
use Rattle.forms.proofs.Rules.{rank-low, fits}
use Rattle.transitions.specs.Step.{closed_step, open_step}
use Rattle.transitions.proofs.Node.{closed-relation, open_relation}
use Rattle.form_bytes.specs.declared.rule.FormRule.{FormRule}
use Rattle.form_bytes.specs.Fields.{fields_at}
use Rattle.forms.specs.Private.Table.{ValidTable}

-- Of the states of four slots, as many as the rank are those of the node's children.

states_tabulate : (w : ℕ → ℕ) (n : ℕ) (slot : ℕ → ℕ) → states_at w (tabulate n slot) ≡ tabulate n (λ j. w (slot j) % 256)
unfolding states_at tabulate
states_tabulate w zero slot = refl
states_tabulate w (suc n) slot = ap (λ (xs : List ℕ). w (slot 0) % 256 ∷ xs) (states_tabulate w n (λ j. slot (suc j)))

module _ (w slot : ℕ → ℕ) (n : ℕ) (low : n ≤ 4) where
  closed-slots : take n (states_at w (tabulate 4 slot)) ≡ states_at w (tabulate n slot)
  closed-slots = ap (take n) (states_tabulate w 4 slot) ∙ take-tabulate n 4 (λ j. w (slot j) % 256) low ∙ sym (states_tabulate w n slot)

  -- the same where child h, counted from 1, is open
  open_slots : (h : ℕ) → 1 ≤ h → h ≤ n
      → take n (states_at w (tabulate 4 slot)) ≡ states_at w (tabulate (h - 1) slot) ++ (w (slot (h - 1)) % 256 ∷ states_at w (tabulate (n - h) (λ j. slot (h + j))))
  open_slots h a b =
      let e : suc (h - 1) ≡ h = omega arith in
      let s : ℕ → ℕ = λ j. w (slot j) % 256 in
      rw (closed-slots, states_tabulate w n slot, states_tabulate w (h - 1) slot, states_tabulate w (n - h) (λ j. slot (h + j)))
      (subst (λ (k : ℕ). tabulate n s ≡ tabulate (h - 1) s ++ (s (h - 1) ∷ tabulate (n - k) (λ j. s (k + j)))) e (tabulate_at (h - 1) n s (omega arith)))

-- A rule that was read from a valid table: what a step through the automaton asks, and the entry, by its kind.

module _ {alphabet table : List ℕ} (automaton : List ℕ) (v : ValidTable alphabet table) (i : ℕ) (l : i < table_count table) (rule : FormRule) (read : rule ≡ fields_at table i) where
  abbrev rank : ℕ
  rank = terminal_rank alphabet rule.terminal.0

  low : rank ≤ 4
  low = rank-low alphabet table v rule.terminal.0

  -- the rule by its fields
  abbrev fields : Rule
  fields = rule_of_kind rule.kind rule.terminal.0 rank rule.hole (slot_of table i)

  same-rule : table_rule alphabet table i ≡ fields
  unfolding table_rule
  same-rule = rw read

  rule_fits_lem : Fits alphabet (table_rules alphabet table) i fields
  rule_fits_lem = rw same-rule at (fits alphabet table v i l)

  pub whole_known : rule.kind ≡ 0 → rule.terminal.0 < length alphabet
  whole_known kind = (rw kind at rule_fits_lem).1.known

  pub pierced_known : rule.kind ≡ 1 → (rule.terminal.0 < length alphabet) × (1 ≤ rule.hole) × (rule.hole ≤ rank)
  pierced_known kind =
      let arity = (rw kind at rule_fits_lem).2 in
      let before = length-tabulate (rule.hole - 1) (slot_of table i) in
      let behind = length-tabulate (rank - rule.hole) (λ j. slot_of table i (rule.hole + j)) in
      (arity.known, omega (arith, arity.rank, before, behind), omega (arith, arity.rank, before, behind))

  module _ (w : ℕ → ℕ) where
    abbrev entry : ℕ
    entry = relation_of (transitions_of alphabet automaton) (table_rule alphabet table i) w

    -- the states of the four slots
    abbrev sets : List ℕ
    sets = states_at w (rule.slot0.0 ∷ rule.slot1.0 ∷ rule.slot2.0 ∷ rule.slot3.0 ∷ [])

    same_sets : sets ≡ states_at w (tabulate 4 (slot_of table i))
    unfolding tabulate
    same_sets = rw read

    pub whole-entry : rule.kind ≡ 0 → closed_step alphabet automaton rule.terminal.0 sets ≡ entry
    whole-entry kind =
        rw (same-rule, kind, same_sets)
        (closed-relation alphabet automaton _ (tabulate rank (slot_of table i)) rule.terminal.0 w (closed-slots w (slot_of table i) rank low))

    pub pierced-entry : rule.kind ≡ 1 → open_step alphabet automaton rule.terminal.0 sets (rule.hole - 1) ≡ entry
    pierced-entry kind =
        let slot = slot_of table i in
        let h = rule.hole in
        let ls = tabulate (h - 1) slot in
        let rs = tabulate (rank - h) (λ j. slot (h + j)) in
        let (_, from, to) = pierced_known kind in
        rw (same-rule, kind, same_sets)
        (ap (open_step alphabet automaton rule.terminal.0 _) (sym (length-tabulate (h - 1) slot))
        ∙ open_relation alphabet automaton _ ls rs rule.terminal.0 (w (slot (h - 1)) % 256) w (open_slots w slot rank low h from to))

    pub filled-entry : rule.kind ≡ 2 → apply_bits (w rule.slot0.0) (w rule.slot1.0) ≡ entry
    unfolding relation_of
    filled-entry kind = rw (same-rule, kind, read)

    pub composed-entry : 3 ≤ rule.kind → compose_bits (w rule.slot0.0) (w rule.slot1.0) ≡ entry
    unfolding relation_of
    composed-entry above =
        let kind : rule.kind ≡ suc (suc (suc (rule.kind - 3))) = omega arith in
        rw (same-rule, kind, read)
