-- `tallies::tally::check_candidate` meets its contract: the candidate is looked for first, then the counts of its line.
use mathlib.Core.Path.{sym, ◌∙◌}
use native.Mathlib.Omega.{arith}
use Rattle.tallies.proofs.Steps.{line_full, gives_25, gives_none}
use Rattle.tallies.proofs.tally.check_candidate.Goals as goal

pub returns-then-contains : goal.returns-then-contains
returns-then-contains c =
    let a = c.args in
    gives_25 a.counts.now a.candidate (omega arith) (sym (line_full a.counts.now a.candidate (omega arith)) ∙ sym c.contains.ensures.value ∙ c.if-contains.true)

pub returns : goal.returns
returns c =
    let a = c.args in
    gives_none a.counts.now a.candidate (omega arith) (sym (line_full a.counts.now a.candidate (omega arith)) ∙ sym c.contains.ensures.value ∙ c.if-contains.false)
