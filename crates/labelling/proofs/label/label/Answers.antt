-- `labelling::label::label` meets its contract: what passes is looked up, with room for the counts of a small form or of the largest.
use Rattle.counting.proofs.Start.{opened-counts}
use Rattle.labelling.proofs.Answers.{start-refuses, start-label}
use Rattle.labelling.proofs.label.label.Goals as goal

pub returns-then-count-le-FEW_RULES-clause-result_value : goal.returns-then-count-le-FEW_RULES-clause-result_value
returns-then-count-le-FEW_RULES-clause-result_value c =
    let o = c.in_ok-opened.ensures.parts.0 in
    rw (start-refuses o c.args.position _ c.in_ok-opened.ensures.refusal, ← start-label o c.args.position) c.label_with.ensures.result_value

pub returns-then-count-le-FEW_RULES-clause-counts_after : goal.returns-then-count-le-FEW_RULES-clause-counts_after
returns-then-count-le-FEW_RULES-clause-counts_after c =
    let o = c.in_ok-opened.ensures.parts.0 in
    rw (start-refuses o c.args.position _ c.in_ok-opened.ensures.refusal, ← opened-counts o) c.label_with.ensures.counts_after

pub returns-clause-result_value : goal.returns-clause-result_value
returns-clause-result_value c =
    let o = c.in_ok-opened.ensures.parts.0 in
    rw (start-refuses o c.args.position _ c.in_ok-opened.ensures.refusal, ← start-label o c.args.position) c.label_with-2.ensures.result_value

pub returns-clause-counts_after : goal.returns-clause-counts_after
returns-clause-counts_after c =
    let o = c.in_ok-opened.ensures.parts.0 in
    rw (start-refuses o c.args.position _ c.in_ok-opened.ensures.refusal, ← opened-counts o) c.label_with-2.ensures.counts_after
