-- Demand 3: one claim about a sheet and form making, evaluation, unfolding and the plain walk in turn (document 01, "Unfolding").
use Rattle.std.specs.Prelude.{◌≡◌, List, ℕ, ◌*◌, ◌≤◌}
use Rattle.terms.specs.Tree.{preorder}
use Rattle.terms.specs.Form.{linear_bound}
use Rattle.terms.specs.Sheet.{alphabet_of, automaton_of, rules_of, transitions_of, sheet_tree}
use Rattle.terms.specs.FormBytes.{rule_count, head_alphabet, form_tree, form_refusal}
use Rattle.terms.specs.Runs.{TreeRuns}
use Rattle.terms.specs.Count.{size_of}
use Rattle.terms.specs.Calls.{rules_asked, form_asked, making_refusal, evaluation_refusal, form_mask, counts_per_rule, unfolding_refusal, most_walked, walk_refusal, walk_mask}

-- the form carries the sheet's alphabet, is valid for it (neither 18 nor 28 is given), derives exactly the sheet's tree, and has no more rules than the sum over
-- the sheet as written, and so at most 16 for each right-side node (01 Unfolding, 02 R-5, R-6)
pub record FormOfSheet (sheet form : List ℕ) : Type 0 where
  pub carried : head_alphabet form ≡ alphabet_of sheet
  pub valid : form_refusal (alphabet_of sheet) form ≡ 0
  pub tree : form_tree (alphabet_of sheet) form ≡ sheet_tree sheet
  pub few : rule_count form ≤ rules_asked sheet
  pub linear : rule_count form ≤ linear_bound (rules_of sheet)

-- the mask has bit q exactly where a run of the sheet's automaton on the sheet's tree ends in q at the root (01 Derived tree and run)
abbrev pub MaskOfRuns : List ℕ → ℕ → Type 0
MaskOfRuns sheet mask = TreeRuns (transitions_of (alphabet_of sheet) (automaton_of sheet)) (sheet_tree sheet) mask

-- the claim about a sheet and its form, on the definitions alone: what the calls refuse and answer, however long the slices that are lent beyond what is asked (01 Unfolding)
pub record Demand3 (sheet form : List ℕ) : Type 0 where
  pub made : (room : ℕ) → form_asked sheet ≤ room → making_refusal sheet room ≡ 0
  pub formed : FormOfSheet sheet form
  pub evaluated : (numbers : ℕ) → rule_count form ≤ numbers → evaluation_refusal (alphabet_of sheet) (automaton_of sheet) form numbers ≡ 0
  pub mask : MaskOfRuns sheet (form_mask (alphabet_of sheet) (automaton_of sheet) form)
  pub unfolded : (numbers room : ℕ) → counts_per_rule * rule_count form ≤ numbers → size_of (sheet_tree sheet) ≤ room → unfolding_refusal (alphabet_of sheet) form numbers room ≡ 0
  pub written : preorder (form_tree (alphabet_of sheet) form) ≡ preorder (sheet_tree sheet)
  pub walked : size_of (sheet_tree sheet) ≤ most_walked → (room : ℕ) → size_of (sheet_tree sheet) ≤ room
      → walk_refusal (alphabet_of sheet) (automaton_of sheet) (preorder (sheet_tree sheet)) room ≡ 0
  pub same : walk_mask (alphabet_of sheet) (automaton_of sheet) (preorder (sheet_tree sheet)) ≡ form_mask (alphabet_of sheet) (automaton_of sheet) form
