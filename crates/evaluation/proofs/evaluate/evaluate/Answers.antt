-- `evaluation::evaluate::evaluate` meets its contract: what runs say of a form that the checks let through.
use mathlib.Core.Path.{sym}
use Rattle.evaluation.proofs.Passed.{evaluation_passed}
use Rattle.evaluation.proofs.Entries.{right_by_runs}
use Rattle.evaluation.proofs.evaluate.evaluate.Goals as goal

pub returns-clause-runs : goal.returns-clause-runs
returns-clause-runs c =
    right_by_runs (evaluation_passed _ _ _ _ (sym c.in_ok-check_evaluation.ensures)) _ _ c.evaluate_checked.ensures.relations_after _ c.evaluate_checked.ensures.value
