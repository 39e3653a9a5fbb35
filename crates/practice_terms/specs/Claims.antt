-- What R-2 promises of every practice sheet (document 02).
use Rattle.std.specs.Prelude.{◌≡◌, List, ℕ}
use Rattle.terms.specs.Sheet.{alphabet_of, rules_of, automaton_of, sheet_tree}
use Rattle.terms.specs.Check.{sheet_refusal}
use Rattle.practice_terms.specs.Practice.{practice_alphabet, practice_rules, practice_sheet}
use Rattle.practice_terms.specs.Described.{practice_tree}

-- the sheet passes 1 to 16, has the alphabet, the rules and the automaton that it was made of, and its tree is the one that the draws describe (02 R-2)
pub record PracticeRight (x m : ℕ) (automaton : List ℕ) : Type 0 where
  pub passes : sheet_refusal (practice_sheet x m automaton) ≡ 0
  pub alphabet-given : alphabet_of (practice_sheet x m automaton) ≡ practice_alphabet
  pub rules-given : rules_of (practice_sheet x m automaton) ≡ practice_rules x m
  pub automaton_given : automaton_of (practice_sheet x m automaton) ≡ automaton
  pub tree-described : sheet_tree (practice_sheet x m automaton) ≡ practice_tree x m
