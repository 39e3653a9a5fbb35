-- The tables of rules, one behind the other, by their bytes.
use mathlib.Core.Path.{◌≡◌, sym, ◌∙◌, ap}
use mathlib.Core.List.{List, ◌++◌}
use Prim.Native.Nat.{ℕ, zero, suc, ◌+◌, ◌*◌, ◌≤◌, ◌<◌}
use native.Mathlib.Omega.{arith}
use native.Mathlib.Decide.{dec_lt}
use lib.ListN.{length, get_or, take, drop, length-append, length-drop, get_or-append}
use lib.Seq.{get_or-append-add, get_or-take, get_or-drop, length-take-le}
use Rattle.terms.specs.Test.{joined}
use Rattle.terms.specs.Grammar.{Rule}
use Rattle.terms.specs.Automaton.{Transition}
use Rattle.terms.proofs.Tabulate.{length-tabulate, get_d_tabulate, tabulated}
use Rattle.blackboard_terms.specs.Blackboard.{table_byte, table_length, rule_table}

module _ (alphabet : List ℕ) (rules : List Rule) (δ : List Transition) (Q : ℕ) where
  abbrev table : ℕ → List ℕ
  table = rule_table alphabet rules δ Q

  pub length_table : (i : ℕ) → length (table i) ≡ table_length
  unfolding rule_table
  length_table i = length-tabulate table_length (table_byte alphabet rules δ Q i)

  pub table_byte_lem : (i c : ℕ) → c < table_length → get_or (table i) c 0 ≡ table_byte alphabet rules δ Q i c
  unfolding rule_table
  table_byte_lem i c h = get_d_tabulate table_length (table_byte alphabet rules δ Q i) 0 c h

  pub length-tables : (n : ℕ) → length (joined n table) ≡ table_length * n
  unfolding joined
  length-tables zero = omega arith
  length-tables (suc n) = length-append (joined n table) (table n) ∙ omega (arith, length-tables n, length_table n)

  pub tables-byte : (n i c : ℕ) → i < n → c < table_length → get_or (joined n table) (table_length * i + c) 0 ≡ table_byte alphabet rules δ Q i c
  unfolding joined
  tables-byte zero i c h l = absurd (omega arith)
  tables-byte (suc n) i c h l = go (dec_lt i n) (λ k. tables-byte n i c k l)
    where
      go : Dec (i < n) → (i < n → get_or (joined n table) (table_length * i + c) 0 ≡ table_byte alphabet rules δ Q i c)
          → get_or (joined n table ++ table n) (table_length * i + c) 0 ≡ table_byte alphabet rules δ Q i c
      go (yes k) ih = get_or-append (joined n table) (table n) 0 (table_length * i + c) (omega (arith, length-tables n)) ∙ ih k
      go (no k) ih =
          let e : i ≡ n = omega arith in
          let place : table_length * i + c ≡ length (joined n table) + c = omega (arith, length-tables n) in
          ap (λ (m : ℕ). get_or (joined n table ++ table n) m 0) place ∙ get_or-append-add (joined n table) (table n) c 0 ∙ table_byte_lem n c l
          ∙ ap (λ (m : ℕ). table_byte alphabet rules δ Q m c) (sym e)

  -- the part of some bytes in which a table lies
  pub table_part : (bytes : List ℕ) (i : ℕ) → table_length * (i + 1) ≤ length bytes
      → ((c : ℕ) → c < table_length → get_or bytes (table_length * i + c) 0 ≡ table_byte alphabet rules δ Q i c) → take table_length (drop (table_length * i) bytes) ≡ table i
  unfolding rule_table
  table_part bytes i h e =
      sym (tabulated table_length (table_byte alphabet rules δ Q i) 0 (take table_length (drop (table_length * i) bytes))
      (length-take-le table_length (drop (table_length * i) bytes) (simp length-drop (omega arith)))
      (λ c l. sym (get_or-take table_length (drop (table_length * i) bytes) c 0 l ∙ get_or-drop (table_length * i) bytes c 0 ∙ e c l)))
