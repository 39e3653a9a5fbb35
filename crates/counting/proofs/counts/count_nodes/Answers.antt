use mathlib.Core.Path.{◌≡◌, refl, ◌∙◌}
use native.Mathlib.Numerals.{add-one}
use native.Mathlib.Omega.{arith}
use Rattle.terms.specs.Test.{joined}
use Rattle.terms.specs.FormBytes.{table_count, table_rules}
use Rattle.terms.specs.Calls.{rules_counts}
use Rattle.forms.proofs.Rules.{rules-counted}
use Rattle.counting.proofs.Counted.{counts-more}
use Rattle.counting.proofs.counts.count_nodes.Goals as goal

pub loop-number-init : goal.loop-number-init
unfolding joined
loop-number-init c = (refl, refl)

pub loop-number-preserved : goal.loop-number-preserved
loop-number-preserved c =
    let table = c.args.table.now in (
      c.count_rule.ensures ∙ rw (c.loop-number.invariant.0, add-one) (counts-more (table_rules table.alphabet.now table.bytes.now) c.args.counts.now c.loop-number.number (omega arith)),
      c.count_rule.auto.counts ∙ c.loop-number.invariant.1,
    )

pub returns : goal.returns
unfolding rules_counts
returns c =
    let table = c.args.table.now in
    let all : c.loop-number.number ≡ table_count table.bytes.now = omega arith in
    rw (rules-counted table.alphabet.now table.bytes.now table.valid, ← all) c.loop-number.invariant.0
