-- The rules one after another: the tables of the first rules are written, and the bytes behind them are kept.
use mathlib.Core.Path.{◌≡◌, sym, ◌∙◌, ap}
use mathlib.Core.Bool.{Bool}
use mathlib.Core.List.{List, [], ◌++◌}
use Prim.Native.Nat.{ℕ, ◌+◌, ◌*◌, ◌-◌, ◌/◌, ◌%◌, ◌≤◌, ◌<◌}
use native.Mathlib.Omega.{arith}
use native.Mathlib.Decide.{dec_lt}
use borrow.Author.Count.{below_more}
use lib.ListN.{length, get_or, drop, length-append, length-drop, get_or-append}
use lib.Seq.{ext_get_or, get_or-append-add, get_or-drop}
use Rattle.terms.specs.Test.{joined}
use Rattle.terms.specs.Grammar.{Rule}
use Rattle.terms.specs.Sheet.{rules_body, state_count, transitions_of}
use Rattle.terms.specs.Check.{most_rules}
use Rattle.grammars.proofs.Turns.{Left, none-read, Turn, read-all}
use Rattle.cleaning.specs.Sifting.{Noted}
use Rattle.blackboard_terms.specs.Blackboard.{table_byte, table_length, rule_table}
use Rattle.blackboard_terms.proofs.Tables.{length-tables, tables-byte}
use Rattle.rule_tables.specs.Table.{TableReady, TableWritten}
use Rattle.rule_tables.specs.Rules.{RulesReady, TablesWritten}

-- fewer rules are noted
noted-below : {alphabet : List ℕ} {rules : List Rule} {n : ℕ} {ranks : List ℕ} {present alone : List Bool} (m : ℕ) → m ≤ n
    → Noted alphabet rules n ranks present alone → Noted alphabet rules m ranks present alone
noted-below m l n = record {
  ranked = n.ranked;
  flagged = n.flagged;
  told = n.told;
  rank = λ r h. n.rank r (omega arith);
  stand = λ r j h. n.stand r j (omega arith);
  lone = λ r h. n.lone r (omega arith);
}

module _ {alphabet automaton body tables : List ℕ} (g : RulesReady alphabet automaton body tables) where
  abbrev rules : List Rule
  rules = (rules_body body).rules

  -- byte c of rule r
  abbrev byte : ℕ → ℕ → ℕ
  byte r c = table_byte alphabet rules (transitions_of alphabet automaton) (state_count automaton) r c

  -- the first i rules have their tables, and the others are left
  pub record Tabling (left : List ℕ) (i : ℕ) (tables' : List ℕ) : Type 0 where
    pub read : Left body i left
    pub long : length tables' ≡ length tables
    pub bytes : (r : ℕ) → r < i → (c : ℕ) → c < table_length → get_or tables' (table_length * r + c) 0 ≡ byte r c
    pub behind : (k : ℕ) → table_length * i ≤ k → get_or tables' k 0 ≡ get_or tables k 0

  pub tabling_none : {tables' : List ℕ} → tables' ≡ tables → Tabling body 0 tables'
  tabling_none e = record {
    read = none-read body;
    long = ap length e;
    bytes = λ r h. absurd (omega arith);
    behind = λ k h. ap (λ (xs : List ℕ). get_or xs k 0) e;
  }

  module _ {left : List ℕ} {i : ℕ} {tables' : List ℕ} (s : Tabling left i tables') where
    -- there are few rules
    pub few-left : i + length (rules_body left).rules ≤ most_rules
    few-left = omega (arith, s.read.count, g.grammar.proper.few)

    -- one rule, which is the first of those that are left
    module _ {rule : Rule} {later : List ℕ} (t : Turn body i left rule later) where
      pub number-few : i < most_rules
      number-few = omega (arith, t.inside, g.grammar.proper.few)

      module _ {ranks : List ℕ} {present alone : List Bool} (n : Noted alphabet rules (length rules) ranks present alone) where
        pub table_ready : TableReady alphabet automaton tables' ranks present rule.nodes i
        table_ready = record {
          given = record {
            rules = rules;
            alone = alone;
            alphabet-passes = g.alphabet-passes;
            automaton_passes = g.automaton_passes;
            proper = g.grammar.proper;
            inside = t.inside;
            rule_nodes = ap (λ (r : Rule). r.nodes) (sym t.here);
            few = omega (arith, t.parted, s.read.nodes, g.grammar.few);
            noted = noted-below i (omega (arith, t.inside)) n;
            below = record { long = omega (arith, s.long, t.inside, g.room); bytes = λ r c h. s.bytes r h c };
          };
          rank = n.rank i t.inside;
          room = omega (arith, s.long, t.inside, g.room);
        }

        pub tabling_more : (tables'' : List ℕ) → TableWritten alphabet automaton tables' ranks present rule.nodes i tables'' → Tabling later (i + 1) tables''
        unfolding table_ready
        tabling_more tables'' w =
            record {
              read = t.next;
              long = w.long ∙ s.long;
              bytes = below_more (λ r. (c : ℕ) → c < table_length → get_or tables'' (table_length * r + c) 0 ≡ byte r c) i
                  (λ r h c m. w.before (table_length * r + c) (omega arith) ∙ s.bytes r h c m) (w.bytes table_ready);
              behind = λ k h. w.behind k h ∙ s.behind k (omega arith);
            }

  -- the tables of all rules
  abbrev written : List ℕ
  written = joined (length rules) (rule_table alphabet rules (transitions_of alphabet automaton) (state_count automaton))

  size : length written ≡ table_length * length rules
  size = length-tables alphabet rules (transitions_of alphabet automaton) (state_count automaton) (length rules)

  module _ {left : List ℕ} {i : ℕ} {tables' : List ℕ} (s : Tabling left i tables') (none : (rules_body left).rules ≡ []) where
    all : i ≡ length rules
    all = sym (read-all s.read none)

    byte_at : (k : ℕ) → Dec (k < length written) → get_or tables' k 0 ≡ get_or (written ++ drop (length written) tables) k 0
    byte_at k (yes l) =
        let r = k / table_length in
        let c = k % table_length in
        let place : table_length * r + c ≡ k = omega arith in
        let inside : r < length rules = omega (arith, size) in
        ap (λ (m : ℕ). get_or tables' m 0) (sym place) ∙ s.bytes r (omega (arith, all)) c (omega arith)
        ∙ sym (get_or-append written (drop (length written) tables) 0 k l ∙ ap (λ (m : ℕ). get_or written m 0) (sym place)
        ∙ tables-byte alphabet rules (transitions_of alphabet automaton) (state_count automaton) (length rules) r c inside (omega arith))
    byte_at k (no l) =
        let place : length written + (k - length written) ≡ k = omega arith in
        s.behind k (omega (arith, size, all)) ∙ ap (λ (m : ℕ). get_or tables m 0) (sym place) ∙ sym (get_or-drop (length written) tables (k - length written) 0)
        ∙ sym (get_or-append-add written (drop (length written) tables) (k - length written) 0) ∙ ap (λ (m : ℕ). get_or (written ++ drop (length written) tables) m 0) place

    pub tabling_all : TablesWritten alphabet automaton body tables tables'
    tabling_all =
        ext_get_or 0 tables' (written ++ drop (length written) tables)
        (omega (arith, s.long, length-append written (drop (length written) tables), length-drop (length written) tables, size, g.room))
        (λ k h. byte_at k (dec_lt k (length written)))
