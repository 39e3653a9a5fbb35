-- `counting::counts::count_rule` meets its contract: what the counts of lower rules say of the rule is what it derives.
use mathlib.Core.Path.{◌∙◌, ap}
use Rattle.counting.specs.Private.Counts.{counts_written}
use Rattle.counting.proofs.Counted.{counted-rule}
use Rattle.counting.proofs.counts.count_rule.Goals as goal

pub returns : goal.returns
returns c =
    let (l, room, below) = c.requires in
    c.write_counts.ensures ∙ ap (counts_written c.args.counts.now c.args.rule.0) (counted-rule _ _ c.args.table.now.valid _ _ l below _ _ c.rule_counts-found.ensures)
