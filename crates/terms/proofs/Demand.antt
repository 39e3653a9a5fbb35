-- Demand 3 on the definitions: it holds of any form of the sheet, and of the form that is made.
use mathlib.Core.Path.{◌≡◌, sym, ap, ◌∙◌}
use mathlib.Core.List.{List}
use Prim.Native.Nat.{ℕ, ◌*◌, ◌≤◌}
use borrow.Author.Tests.{le-ltb}
use lib.Dec.{T, ltb}
use lib.ListN.{length}
use Rattle.terms.specs.Test.{all}
use Rattle.terms.specs.Tree.{Tree, preorder, wholes}
use Rattle.terms.specs.Grammar.{terminal_rank}
use Rattle.terms.specs.Automaton.{mask}
use Rattle.terms.specs.Sheet.{alphabet_of, automaton_of, rules_of, transitions_of, sheet_tree}
use Rattle.terms.specs.Check.{is_one, is_tree, tree_refusal, sheet_refusal}
use Rattle.terms.specs.FormBytes.{rule_count}
use Rattle.terms.specs.Count.{size_of}
use Rattle.terms.specs.Calls.{opening_refusal, evaluation_refusal, form_mask, counts_per_rule, size_refusal, unfolding_refusal, most_walked, walk_refusal, walk_mask}
use Rattle.terms.specs.Demand.{FormOfSheet, MaskOfRuns, Demand3}
use Rattle.terms.proofs.Test.{is_true, both}
use Rattle.terms.proofs.Tree.Whole.{wholes-preorder, tree_of_preorder}
use Rattle.terms.proofs.Grammar.Over.{over-known}
use Rattle.terms.proofs.Grammar.Derivation.{derived-over, derived-ranked}
use Rattle.terms.proofs.Automaton.Mask.{mask_iff}
use Rattle.terms.proofs.Sheet.Passed.{SheetPassed, sheet_passed, sheet-proper, sheet_small}
use Rattle.terms.proofs.Sheet.Asked.{just_enough}

module _ (sheet : List ℕ) (passes : sheet_refusal sheet ≡ 0) where
  abbrev alphabet : List ℕ
  alphabet = alphabet_of sheet

  abbrev automaton : List ℕ
  automaton = automaton_of sheet

  abbrev tree : Tree
  tree = sheet_tree sheet

  abbrev passed : SheetPassed sheet
  passed = sheet_passed sheet passes

  -- the sheet's tree, as the bytes that a walk gets

  tree-known : T (all (λ f. ltb f (length alphabet)) (preorder tree))
  unfolding sheet_tree
  tree-known = over-known alphabet tree (derived-over alphabet (rules_of sheet) (sheet-proper sheet passes))

  tree-whole : T (is_tree alphabet (preorder tree))
  unfolding is_tree sheet_tree
  tree-whole =
      let one = wholes-preorder (terminal_rank alphabet) tree (derived-ranked alphabet (rules_of sheet) (sheet-proper sheet passes)) in
      both (all (λ f. ltb f (length alphabet)) (preorder tree)) (is_one (wholes (terminal_rank alphabet) (preorder tree))) tree-known (rw one tt)

  not_refused : (most : ℕ) → size_of tree ≤ most → tree_refusal most alphabet (preorder tree) ≡ 0
  unfolding tree_refusal
  not_refused most short = rw (le-ltb most (size_of tree) short, is_true (is_tree alphabet (preorder tree)) tree-whole)

  walk_passes : size_of tree ≤ most_walked → (room : ℕ) → size_of tree ≤ room → walk_refusal alphabet automaton (preorder tree) room ≡ 0
  unfolding walk_refusal
  walk_passes small room h = rw (passed.alphabet, passed.automaton, not_refused most_walked small, le-ltb room (size_of tree) h)

  pub walk_answers : walk_mask alphabet automaton (preorder tree) ≡ mask (transitions_of alphabet automaton) tree
  unfolding walk_mask sheet_tree
  walk_answers = ap (mask (transitions_of alphabet automaton)) (tree_of_preorder (terminal_rank alphabet) tree (derived-ranked alphabet (rules_of sheet) (sheet-proper sheet passes)))

  module _ (form : List ℕ) (formed : FormOfSheet sheet form) where
    mask_is : form_mask alphabet automaton form ≡ mask (transitions_of alphabet automaton) tree
    unfolding form_mask
    mask_is = ap (mask (transitions_of alphabet automaton)) formed.tree

    mask_of_runs : MaskOfRuns sheet (form_mask alphabet automaton form)
    mask_of_runs = rw mask_is (mask_iff (transitions_of alphabet automaton) (sheet_small sheet passes) tree)

    evaluation_passes : (numbers : ℕ) → rule_count form ≤ numbers → evaluation_refusal alphabet automaton form numbers ≡ 0
    unfolding evaluation_refusal
    evaluation_passes numbers h = rw (passed.alphabet, passed.automaton, formed.valid, le-ltb numbers (rule_count form) h)

    unfolding_passes : (numbers room : ℕ) → counts_per_rule * rule_count form ≤ numbers → size_of tree ≤ room → unfolding_refusal alphabet form numbers room ≡ 0
    unfolding unfolding_refusal size_refusal opening_refusal
    unfolding_passes numbers room h k =
        rw (passed.alphabet, formed.valid, le-ltb numbers (counts_per_rule * rule_count form) h, formed.tree, le-ltb room (size_of tree) k)

    pub form_meets : Demand3 sheet form
    form_meets = record {
      made = (just_enough sheet passes).makes;
      formed = formed;
      evaluated = evaluation_passes;
      mask = mask_of_runs;
      unfolded = unfolding_passes;
      written = ap preorder formed.tree;
      walked = walk_passes;
      same = walk_answers ∙ sym mask_is;
    }
