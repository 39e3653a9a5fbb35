-- The entries of a table's rules, one behind the other in a lent slice.
use mathlib.Core.Path.{◌≡◌, refl, ◌∙◌}
use mathlib.Core.List.{List, ◌++◌, append_assoc}
use Prim.Native.Nat.{ℕ, zero, suc, ◌+◌, ◌-◌, ◌≤◌, ◌<◌}
use native.Mathlib.Numerals.{add-one}
use native.Mathlib.Omega.{arith}
use lib.ListN.{length, get_or, drop, set, get_or-append}
use lib.Seq.{drop-cons, set_at}
use Rattle.terms.specs.Test.{tabulate}
use Rattle.terms.specs.Automaton.{Small}
use Rattle.terms.specs.Relation.{relation_of, relation_at}
use Rattle.terms.specs.Sheet.{transitions_of}
use Rattle.terms.specs.FormBytes.{table_count, table_rule, table_rules}
use Rattle.terms.specs.Calls.{lent_after}
use Rattle.terms.proofs.Tabulate.{length-tabulate, get_d_tabulate, tabulate-more}
use Rattle.terms.proofs.Automaton.Entry.{relation-next}
use Rattle.forms.specs.Private.Table.{ValidTable}
use Rattle.forms.proofs.Rules.{valid-rules, in_rules, rule-is}
use Rattle.entries.specs.Entries.{entry_in, relations_in, written_from}

-- the entry of rule i of a table
abbrev pub entry_at : List ℕ → List ℕ → List ℕ → ℕ → ℕ
entry_at alphabet automaton table = relation_at (transitions_of alphabet automaton) (table_rules alphabet table)

-- the first n entries, and what is behind them
pub entry_in_lem : (n : ℕ) (f : ℕ → ℕ) (rest : List ℕ) (j : ℕ) → j < n → entry_in (tabulate n f ++ rest) j ≡ f j
entry_in_lem n f rest j h = get_or-append (tabulate n f) rest 0 j (omega (arith, length-tabulate n f)) ∙ get_d_tabulate n f 0 j h

put_next : (i : ℕ) (f : ℕ → ℕ) (xs : List ℕ) → i < length xs → set (tabulate i f ++ drop i xs) i (f i) ≡ tabulate (i + 1) f ++ drop (i + 1) xs
put_next i f xs h =
    rw (add-one, drop-cons xs i 0 h, set_at (tabulate i f) (get_or xs i 0) (drop (suc i) xs) (f i) i (length-tabulate i f), tabulate-more, append_assoc)

-- what is still to be written, from rule i up to the end: one rule more is written, or none is left
module _ (alphabet automaton table : List ℕ) (i end : ℕ) (relations : List ℕ) where
  pub one_written : i < end → (x : ℕ) → x ≡ relation_of (transitions_of alphabet automaton) (table_rule alphabet table i) (entry_in relations)
      → written_from alphabet automaton table i (end - i) relations ≡ written_from alphabet automaton table (i + 1) (end - (i + 1)) (set relations i x)
  unfolding written_from
  one_written h x made =
      let more : end - i ≡ suc (end - (i + 1)) = omega arith in
      let next : i + 1 ≡ suc i = omega arith in
      rw (more, made, next)

  pub none_left : end ≤ i → written_from alphabet automaton table i (end - i) relations ≡ relations
  unfolding written_from
  none_left h =
      let none : end - i ≡ 0 = omega arith in
      rw none

-- a table, rule by rule
module _ (alphabet automaton table : List ℕ) (small : Small (transitions_of alphabet automaton)) (v : ValidTable alphabet table) where
  -- the entry of rule i, made from the entries below it and put behind them
  pub entry_next : (i : ℕ) → i < table_count table → (entry relations : List ℕ) (x : ℕ) → i < length entry
      → relations ≡ tabulate i (entry_at alphabet automaton table) ++ drop i entry
      → x ≡ relation_of (transitions_of alphabet automaton) (table_rule alphabet table i) (entry_in relations)
      → set relations i x ≡ tabulate (i + 1) (entry_at alphabet automaton table) ++ drop (i + 1) entry
  entry_next i l entry relations x h kept made =
      let f = entry_at alphabet automaton table in
      let is : x ≡ f i = rw (made, kept, ← rule-is alphabet table v i l)
      (relation-next (transitions_of alphabet automaton) small (valid-rules alphabet table v) i (in_rules alphabet table v i l) _ (entry_in_lem i f (drop i entry))) in
      rw (kept, is) (put_next i f entry h)

  -- the entries of n rules from rule i on, worked out behind those of the rules below
  written_on : (n i : ℕ) → i + n ≡ table_count table → (entry relations : List ℕ) → table_count table ≤ length entry → relations ≡ tabulate i (entry_at alphabet automaton table) ++ drop i entry
      → written_from alphabet automaton table i n relations ≡ lent_after 0 (relations_in alphabet automaton table) entry
  unfolding written_from
  written_on zero i e entry relations room kept =
      let all : i ≡ table_count table = omega arith in
      rw (length-tabulate (table_count table) (entry_at alphabet automaton table), ← all) kept
  written_on (suc n) i e entry relations room kept =
      written_on n (suc i) (omega arith) entry _ room (rw add-one at (entry_next i (omega arith) entry relations _ (omega arith) kept refl))

  -- the entries of all rules, worked out from the lowest on
  pub all-written : (n : ℕ) → n ≡ table_count table → (entry : List ℕ) → n ≤ length entry
      → written_from alphabet automaton table 0 (n - 0) entry ≡ lent_after 0 (relations_in alphabet automaton table) entry
  unfolding tabulate
  all-written n e entry room = written_on (n - 0) 0 (omega arith) entry entry (omega arith) refl
