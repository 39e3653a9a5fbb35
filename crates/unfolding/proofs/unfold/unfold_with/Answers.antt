-- `unfolding::unfold::unfold_with` meets its contract: the counts that it works out are those of the table's rules, so that a tree that fits is written whole.
use mathlib.Core.Path.{◌≡◌, sym, ◌∙◌, ap}
use mathlib.Core.List.{◌++◌}
use Prim.Native.Nat.{◌*◌, ◌≤◌, ◌<◌}
use native.Mathlib.Omega.{arith}
use lib.ListN.{length, drop}
use Rattle.terms.specs.FormBytes.{table_count}
use Rattle.terms.specs.Count.{own_nodes}
use Rattle.terms.specs.Calls.{counts_per_rule}
use Rattle.terms.specs.Answer.{answered}
use Rattle.counting.proofs.Counted.{own-known}
use Rattle.sizing.proofs.Answers.{counted_table, counts-left}
use Rattle.writing.specs.Writing.{value_in}
use Rattle.unfolding.proofs.unfold.Call.{start-room, longer, fits, tree-left}
use Rattle.unfolding.proofs.unfold.unfold_with.Goals as goal

pub returns-then-tree-size-clause-answer : goal.returns-then-tree-size-clause-answer
returns-then-tree-size-clause-answer g c =
    let o = c.args.opened.now in
    let capped = c.own_of-size.ensures ∙ own-known (counted_table o.table.valid _ _ c.count_nodes.ensures) _ o.start_low in
    let long : length c.args.tree.now < own_nodes (value_in o.table.alphabet.now o.table.bytes.now o.start.0) = omega (arith, capped) in
    rw (longer _ _ _ _ long)

pub returns-then-tree-size-clause-tree : goal.returns-then-tree-size-clause-tree
returns-then-tree-size-clause-tree g c =
    let o = c.args.opened.now in
    let capped = c.own_of-size.ensures ∙ own-known (counted_table o.table.valid _ _ c.count_nodes.ensures) _ o.start_low in
    let long : length c.args.tree.now < own_nodes (value_in o.table.alphabet.now o.table.bytes.now o.start.0) = omega (arith, capped) in
    rw (longer _ _ _ _ long)

pub returns-then-tree-size-clause-counts : goal.returns-then-tree-size-clause-counts
returns-then-tree-size-clause-counts g c =
    let o = c.args.opened.now in
    let capped = c.own_of-size.ensures ∙ own-known (counted_table o.table.valid _ _ c.count_nodes.ensures) _ o.start_low in
    let long : length c.args.tree.now < own_nodes (value_in o.table.alphabet.now o.table.bytes.now o.start.0) = omega (arith, capped) in
    rw (longer _ _ _ _ long)

pub write_tree-requires : goal.write_tree-requires
write_tree-requires g c =
    let o = c.args.opened.now in
    let capped = c.own_of-size.ensures ∙ own-known (counted_table o.table.valid _ _ c.count_nodes.ensures) _ o.start_low in
    let whole : own_nodes (value_in o.table.alphabet.now o.table.bytes.now o.start.0) ≤ length c.args.tree.now = omega (arith, capped) in
    start-room _ _ _ o.start_low _ whole

pub returns-clause-answer : goal.returns-clause-answer
returns-clause-answer g c =
    let o = c.args.opened.now in
    let capped = c.own_of-size.ensures ∙ own-known (counted_table o.table.valid _ _ c.count_nodes.ensures) _ o.start_low in
    let whole : own_nodes (value_in o.table.alphabet.now o.table.bytes.now o.start.0) ≤ length c.args.tree.now = omega (arith, capped) in
    let exact : c.own_of-size.result ≡ own_nodes (value_in o.table.alphabet.now o.table.bytes.now o.start.0) = omega (arith, capped) in
    rw (fits _ _ _ _ whole) (ap answered exact)

pub returns-clause-tree : goal.returns-clause-tree
returns-clause-tree g c =
    let o = c.args.opened.now in
    let capped = c.own_of-size.ensures ∙ own-known (counted_table o.table.valid _ _ c.count_nodes.ensures) _ o.start_low in
    let whole : own_nodes (value_in o.table.alphabet.now o.table.bytes.now o.start.0) ≤ length c.args.tree.now = omega (arith, capped) in
    tree-left _ _ _ _ c.args.tree.now _ (sym (fits _ _ _ _ whole)) whole c.write_tree.ensures

pub returns-clause-counts : goal.returns-clause-counts
returns-clause-counts g c =
    let o = c.args.opened.now in
    let known = counted_table o.table.valid _ _ c.count_nodes.ensures in
    let capped = c.own_of-size.ensures ∙ own-known known _ o.start_low in
    let whole : own_nodes (value_in o.table.alphabet.now o.table.bytes.now o.start.0) ≤ length c.args.tree.now = omega (arith, capped) in
    let n = counts_per_rule * table_count o.table.bytes.now in
    let copied = rw c.count-filled.ensures at c.copy_from_slice.ensures.after in
    counts-left o.table.valid _ c.args.counts.now _ (sym (fits _ _ _ _ whole)) (rw c.count-filled.ensures (ap (λ xs. xs ++ drop n c.args.counts.now) (copied ∙ known.counted)))
