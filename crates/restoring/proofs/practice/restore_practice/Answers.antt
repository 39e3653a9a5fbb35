-- `restoring::practice::restore_practice` meets its contract: the calls' own contracts, side by side, from which the claim follows.
use mathlib.Core.Path.{ap, ◌∙◌}
use mathlib.Core.List.{List}
use Prim.Native.Nat.{ℕ}
use lib.ListN.{length}
use Rattle.terms.specs.Answer.{answer_of}
use Rattle.terms.specs.Tree.{preorder}
use Rattle.practice_terms.specs.Practice.{practice_alphabet, practice_sheet}
use Rattle.practice_terms.specs.Described.{practice_tree}
use Rattle.practice_terms.specs.Claims.{PracticeRight}
use Rattle.practice_terms.proofs.Sheet.{written_right}
use Rattle.restoring.specs.Restore.{RestoringCalls}
use Rattle.restoring.proofs.Errors.{made-refusals, unfolded-refusals}
use Rattle.restoring.proofs.Restored.{SheetOf, calls_restore}
use Rattle.restoring.proofs.practice.restore_practice.Goals as goal

-- the practice sheet is one of its alphabet and of the tree that the draws describe
practice-is : {x m : ℕ} {automaton : List ℕ} → PracticeRight x m automaton → SheetOf (practice_sheet x m automaton) practice_alphabet (preorder (practice_tree x m))
practice-is w = record { passes = w.passes; alphabet-given = w.alphabet-given; tree-given = ap preorder w.tree-described }

pub returns : goal.returns
returns c =
    let given = c.args in
    let told = c.unfold_written.ensures in
    let calls : RestoringCalls _ _ _ _ _ _ = record {
      answers = ap answer_of told.written_value ∙ c.practice-written.ensures.result_value;
      writes = c.practice-written.ensures.sheet_after;
      makes = made-refusals _ _ _ _ _ told.made_from;
      unfolds = unfolded-refusals _ _ _ _ _ _ _ _ told.unfolded_from;
    } in record { calls = calls; demand = calls_restore _ _ _ _ (λ e. practice-is (written_right given.first given.m given.automaton.now (length given.sheet.now) e)) _ _ _ calls }
