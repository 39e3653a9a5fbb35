-- `labelling::label::label_with` meets its contract: the position is looked up from the start, once it is known to be there.
use mathlib.Core.Path.{sym, ◌∙◌, ap}
use mathlib.Core.List.{◌++◌}
use Prim.Native.Nat.{◌*◌}
use native.Mathlib.Omega.{arith}
use lib.ListN.{drop}
use Rattle.terms.specs.FormBytes.{table_count}
use Rattle.terms.specs.Calls.{counts_per_rule}
use Rattle.terms.specs.Answer.{answered}
use Rattle.counting.proofs.Counted.{own-known}
use Rattle.sizing.proofs.Answers.{counted_table, counts-left}
use Rattle.labelling.proofs.Answers.{position_past, position_there}
use Rattle.labelling.proofs.label.label_with.Goals as goal

pub returns-then-own_of-position-clause-result_value : goal.returns-then-own_of-position-clause-result_value
returns-then-own_of-position-clause-result_value g c =
    let o = c.args.opened.now in
    let nodes = c.own_of.ensures ∙ own-known (counted_table o.table.valid _ _ c.count_nodes.ensures) _ o.start_low in
    rw (position_past o.table.alphabet.now o.table.bytes.now o.start.0 c.args.position (omega (arith, nodes)))

pub returns-then-own_of-position-clause-counts_after : goal.returns-then-own_of-position-clause-counts_after
returns-then-own_of-position-clause-counts_after g c =
    let o = c.args.opened.now in
    let nodes = c.own_of.ensures ∙ own-known (counted_table o.table.valid _ _ c.count_nodes.ensures) _ o.start_low in
    rw (position_past o.table.alphabet.now o.table.bytes.now o.start.0 c.args.position (omega (arith, nodes)))

pub label_in-requires : goal.label_in-requires
label_in-requires g c =
    let o = c.args.opened.now in
    let nodes = c.own_of.ensures ∙ own-known (counted_table o.table.valid _ _ c.count_nodes.ensures) _ o.start_low in
    record { rule = o.start_low; within = omega (arith, nodes) }

pub returns-clause-result_value : goal.returns-clause-result_value
returns-clause-result_value g c =
    let o = c.args.opened.now in
    let nodes = c.own_of.ensures ∙ own-known (counted_table o.table.valid _ _ c.count_nodes.ensures) _ o.start_low in
    rw (position_there o.table.alphabet.now o.table.bytes.now o.start.0 c.args.position (omega (arith, nodes))) (ap answered c.label_in.ensures)

pub returns-clause-counts_after : goal.returns-clause-counts_after
returns-clause-counts_after g c =
    let o = c.args.opened.now in
    let known = counted_table o.table.valid _ _ c.count_nodes.ensures in
    let nodes = c.own_of.ensures ∙ own-known known _ o.start_low in
    let there = position_there o.table.alphabet.now o.table.bytes.now o.start.0 c.args.position (omega (arith, nodes)) in
    let n = counts_per_rule * table_count o.table.bytes.now in
    let copied = rw c.count-filled.ensures at c.copy_from_slice.ensures.after in
    counts-left o.table.valid _ c.args.counts.now _ (sym there) (rw c.count-filled.ensures (ap (λ xs. xs ++ drop n c.args.counts.now) (copied ∙ known.counted)))
