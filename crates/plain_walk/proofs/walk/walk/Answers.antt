-- `plain_walk::walk::walk` meets its contract: where nothing is refused the slice has the mask of each subtree, and the answer is that of the whole tree.
use mathlib.Core.Path.{sym}
use native.Mathlib.Omega.{arith}
use Rattle.subtree_masks.proofs.Passed.{walk_passed}
use Rattle.plain_walk.proofs.Whole.{some-node}
use Rattle.plain_walk.proofs.Outcome.{reads}
use Rattle.plain_walk.proofs.walk.walk.Goals as goal

pub new-linked-requires : goal.new-linked-requires
new-linked-requires c =
    let p = walk_passed _ _ _ _ (sym c.in_ok-check_walk.ensures) in
    record { alphabet = p.alphabet_passes; automaton = p.automaton_passes }

pub read_node-requires : goal.read_node-requires
read_node-requires c =
    let none_refused = sym c.in_ok-check_walk.ensures in
    rw (c.new-linked.ensures.alphabet, c.new-linked.ensures.automaton) (none_refused, some-node _ _ (walk_passed _ _ _ _ none_refused).tree_passes)

pub bounds-masks-0 : goal.bounds-masks-0
bounds-masks-0 c =
    let p = walk_passed _ _ _ _ (sym c.in_ok-check_walk.ensures) in
    omega (arith, c.read_node.auto.masks, p.fits, some-node _ _ p.tree_passes)

pub returns : goal.returns
returns c =
    let linked = c.new-linked.ensures in
    let end = rw linked.alphabet at c.read_node.ensures.end in
    let noted = rw (linked.alphabet, linked.automaton) at c.read_node.ensures.noted in
    let read = reads _ _ _ _ c.in_ok-check_walk.ensures c.read_node.auto.masks end noted in
    record { answer = read.0; masks = read.1 }
