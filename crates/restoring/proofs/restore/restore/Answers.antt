-- `restoring::restore::restore` meets its contract: the calls' own contracts, side by side, from which the claim follows.
use mathlib.Core.Path.{ap, ◌∙◌}
use mathlib.Core.List.{List}
use Prim.Native.Nat.{ℕ}
use lib.ListN.{length}
use Rattle.terms.specs.Answer.{answer_of}
use Rattle.terms.specs.Sheet.{wrapped}
use Rattle.terms.proofs.Sheet.Wrap.{Wrapped, wrap_right}
use Rattle.restoring.specs.Restore.{RestoringCalls}
use Rattle.restoring.proofs.Errors.{made-refusals, unfolded-refusals}
use Rattle.restoring.proofs.Restored.{SheetOf, calls_restore}
use Rattle.restoring.proofs.restore.restore.Goals as goal

-- the sheet that wrap writes is one of the alphabet and the tree
wrapped-is : {alphabet tree automaton : List ℕ} → Wrapped alphabet tree automaton → SheetOf (wrapped alphabet tree automaton) alphabet tree
wrapped-is w = record { passes = w.passes; alphabet-given = w.alphabet-given; tree-given = w.tree-given }

pub returns : goal.returns
returns c =
    let given = c.args in
    let told = c.unfold_written.ensures in
    let calls : RestoringCalls _ _ _ _ _ _ = record {
      answers = ap answer_of told.written_value ∙ c.wrap-written.ensures.result_value;
      writes = c.wrap-written.ensures.sheet_after;
      makes = made-refusals _ _ _ _ _ told.made_from;
      unfolds = unfolded-refusals _ _ _ _ _ _ _ _ told.unfolded_from;
    } in record { calls = calls; demand = calls_restore _ _ _ _ (λ e. wrapped-is (wrap_right given.alphabet.now given.tree.now given.automaton.now (length given.sheet.now) e)) _ _ _ calls }
