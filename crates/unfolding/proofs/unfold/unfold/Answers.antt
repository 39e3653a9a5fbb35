-- `unfolding::unfold::unfold` meets its contract: what passes is unfolded, with room for the counts of a small form or of the largest.
use Rattle.counting.proofs.Start.{opened-size, opened-counts}
use Rattle.unfolding.proofs.unfold.Call.{start-refuses, opened-symbols}
use Rattle.unfolding.proofs.unfold.unfold.Goals as goal

pub returns-then-count-le-FEW_RULES-clause-answer : goal.returns-then-count-le-FEW_RULES-clause-answer
returns-then-count-le-FEW_RULES-clause-answer c =
    let o = c.in_ok-opened.ensures.parts.0 in
    rw (start-refuses o _ _ c.in_ok-opened.ensures.refusal, ← opened-size o) c.unfold_with.ensures.answer

pub returns-then-count-le-FEW_RULES-clause-tree : goal.returns-then-count-le-FEW_RULES-clause-tree
returns-then-count-le-FEW_RULES-clause-tree c =
    let o = c.in_ok-opened.ensures.parts.0 in
    rw (start-refuses o _ _ c.in_ok-opened.ensures.refusal, ← opened-symbols o) c.unfold_with.ensures.tree

pub returns-then-count-le-FEW_RULES-clause-counts : goal.returns-then-count-le-FEW_RULES-clause-counts
returns-then-count-le-FEW_RULES-clause-counts c =
    let o = c.in_ok-opened.ensures.parts.0 in
    rw (start-refuses o _ _ c.in_ok-opened.ensures.refusal, ← opened-counts o) c.unfold_with.ensures.counts

pub returns-clause-answer : goal.returns-clause-answer
returns-clause-answer c =
    let o = c.in_ok-opened.ensures.parts.0 in
    rw (start-refuses o _ _ c.in_ok-opened.ensures.refusal, ← opened-size o) c.unfold_with-2.ensures.answer

pub returns-clause-tree : goal.returns-clause-tree
returns-clause-tree c =
    let o = c.in_ok-opened.ensures.parts.0 in
    rw (start-refuses o _ _ c.in_ok-opened.ensures.refusal, ← opened-symbols o) c.unfold_with-2.ensures.tree

pub returns-clause-counts : goal.returns-clause-counts
returns-clause-counts c =
    let o = c.in_ok-opened.ensures.parts.0 in
    rw (start-refuses o _ _ c.in_ok-opened.ensures.refusal, ← opened-counts o) c.unfold_with-2.ensures.counts
