-- What the blackboard method answers and leaves, by what was read of a sheet and by the length of the slice.
use mathlib.Core.Path.{◌≡◌, sym, ◌∙◌, ap}
use mathlib.Core.List.{List}
use Prim.Native.Nat.{ℕ, ◌+◌, ◌*◌, ◌-◌, ◌≤◌, ◌<◌}
use native.Mathlib.Omega.{arith}
use lib.ListN.{length, get_or, drop, length-append, get_or-append}
use Rattle.terms.specs.Sheet.{alphabet_of, automaton_of, body, rules_of, state_count, transitions_of, sheet_mask}
use Rattle.terms.specs.Check.{sheet_refusal}
use Rattle.terms.specs.Calls.{lent_after}
use Rattle.terms.proofs.Sheet.Grammar.{rules_passed}
use Rattle.terms.proofs.Sheet.Passed.{sheet_passed, sheet-proper}
use Rattle.blackboard_terms.specs.Blackboard.{table_length, tables_of}
use Rattle.blackboard_terms.proofs.Tables.{length-tables, tables-byte}
use Rattle.blackboard_terms.proofs.Sheet.{sheet-byte, blackboard_runs}
use Rattle.rule_tables.specs.Rules.{RulesReady, TablesWritten}
use Rattle.blackboard_terms.specs.Claims.{BlackboardRuns}

module _ (s : List ℕ) {count : ℕ} (passes : sheet_refusal s ≡ 0) (counted : count ≡ length (rules_of s)) where
  pub some-rule : 0 < count
  some-rule = omega (arith, counted, (sheet-proper s passes).some)

  long : length (tables_of s) ≡ table_length * count
  unfolding tables_of
  long =
      length-tables (alphabet_of s) (rules_of s) (transitions_of (alphabet_of s) (automaton_of s)) (state_count (automaton_of s)) (length (rules_of s))
      ∙ ap (λ (n : ℕ). table_length * n) (sym counted)

  first_byte : get_or (tables_of s) (table_length * (length (rules_of s) - 1) + 0) 0 ≡ sheet_mask s
  unfolding tables_of
  first_byte =
      let n = length (rules_of s) in
      tables-byte (alphabet_of s) (rules_of s) (transitions_of (alphabet_of s) (automaton_of s)) (state_count (automaton_of s)) n (n - 1) 0 (omega (arith, some-rule, counted)) (omega arith)
      ∙ sheet-byte s passes

  module _ {alphabet rules automaton : List ℕ} (a : alphabet ≡ alphabet_of s) (b : rules ≡ body s 1) (c : automaton ≡ automaton_of s) where
    -- the rules of the parts can be tabled
    pub ready : (table : List ℕ) → table_length * count ≤ length table → RulesReady alphabet automaton rules table
    unfolding rules_of
    ready table h =
        let passed = sheet_passed s passes in
        let p = rules_passed (alphabet_of s) (body s 1) passed.rules in
        rw (a, c, b)
        record {
          alphabet-passes = passed.alphabet;
          automaton_passes = passed.automaton;
          grammar = record { proper = p.proper; few = p.few-nodes };
          room = rw counted at h;
        }

    -- the tables are those of the sheet, and the first byte of the start's table is the mask
    pub record SheetTabled (table table' : List ℕ) : Type 0 where
      pub left : table' ≡ lent_after 0 (tables_of s) table
      pub inside : table_length * (count - 1) < length table'
      pub mask : get_or table' (table_length * (count - 1)) 0 ≡ sheet_mask s

    pub sheet-tabled : (table table' : List ℕ) → TablesWritten alphabet automaton rules table table' → SheetTabled table table'
    unfolding tables_of rules_of
    sheet-tabled table table' written =
        let left : table' ≡ lent_after 0 (tables_of s) table = rw (a, c, b) at written in
        let later = drop (length (tables_of s)) table in
        let start = table_length * (length (rules_of s) - 1) + 0 in
        let e : table_length * (count - 1) ≡ start = omega (arith, counted) in
        record {
          left = left;
          inside = omega (arith, some-rule, ap length left, length-append (tables_of s) later, long);
          mask = rw (left, e) (get_or-append (tables_of s) later 0 start (omega (arith, long, counted, some-rule)) ∙ first_byte);
        }

-- what runs say of the tables that are written
pub right_by_runs : (s table : List ℕ) {bytes : List ℕ} {mask : ℕ} {table' : List ℕ} → bytes ≡ s → sheet_refusal bytes ≡ 0 → mask ≡ sheet_mask bytes
    → table' ≡ lent_after 0 (tables_of bytes) table → BlackboardRuns s table' mask
right_by_runs s table same passes m w = rw (m, w, same) (blackboard_runs s (rw same at passes) (drop (length (tables_of s)) table))
