-- `subtree_masks::read::read_node` and `read_children`, which call each other, meet their contracts: a node's children stand behind it, and its mask is the step of
-- their masks; the next child is there, and is a node of the tree.
use mathlib.Core.Path.{refl, ◌∙◌}
use Prim.Native.Nat.{◌≤◌, ◌<◌}
use native.Mathlib.Omega.{arith}
use lib.ListN.{length, get_or, length-set}
use Rattle.terms.specs.Tree.{preorders, count, firsts}
use Rattle.terms.specs.Grammar.{terminal_rank}
use Rattle.terms.specs.Automaton.{masks}
use Rattle.subtree_masks.specs.Readers.{trees_from}
use Rattle.subtree_masks.proofs.Trees.{tree-there}
use Rattle.subtree_masks.proofs.Passed.{walk_passed, rank-few, node-known, children-there}
use Rattle.subtree_masks.proofs.Noted.{noted-none}
use Rattle.subtree_masks.proofs.Reading.{node-read, child_read}
use Rattle.subtree_masks.proofs.read.+read_children_read_node.Goals as goal

pub read_children-loop-j-init : goal.read_children-loop-j-init
unfolding preorders firsts masks
read_children-loop-j-init t c =
    let (checked, few, there, four) = c.requires in
    record { kept = refl; room = four; ends = omega arith; noted = noted-none _ _; read = refl }

pub read_children-read_node-end-requires : goal.read_children-read_node-end-requires
read_children-read_node-end-requires t c =
    let a = c.args in
    let (checked, few, there, four) = c.requires in
    let l = c.loop-j in
    -- the next child is there, and is a node of the tree
    let counted : l.j < count (trees_from a.linked.now.alphabet.now a.tree.now.now a.at) = omega arith in
    let child_there : l.end < length a.tree.now.now = omega (arith, l.invariant.ends, tree-there a.linked.now.alphabet.now a.tree.now.now a.at l.j counted) in
    (omega arith, (rw l.invariant.kept checked, child_there))

pub read_children-bounds-masks-child : goal.read_children-bounds-masks-child
read_children-bounds-masks-child t c =
    let a = c.args in
    let l = c.loop-j in
    let (checked, few, there, four) = c.requires in
    let counted : l.j < count (trees_from a.linked.now.alphabet.now a.tree.now.now a.at) = omega arith in
    omega (
      arith,
      l.invariant.ends,
      tree-there a.linked.now.alphabet.now a.tree.now.now a.at l.j counted,
      c.read_node-end.auto.masks,
      l.invariant.kept,
      (walk_passed _ _ _ _ checked).fits,
    )

pub read_children-loop-j-preserved : goal.read_children-loop-j-preserved
read_children-loop-j-preserved t c =
    let a = c.args in
    let l = c.loop-j in
    let (checked, few, there, four) = c.requires in
    let counted : l.j < count (trees_from a.linked.now.alphabet.now a.tree.now.now a.at) = omega arith in
    let read = c.read_node-end in
    let i = l.invariant in
    let (ends, noted, sets) = child_read _ _ _ _ _ counted l.sets (omega arith) i.ends i.noted i.read read.ensures.end read.ensures.noted in
    record { kept = read.auto.masks ∙ i.kept; room = simp length-set i.room; ends = ends; noted = noted; read = sets }

pub read_node-bounds-linked-terminal : goal.read_node-bounds-linked-terminal
read_node-bounds-linked-terminal t c =
    let (checked, there) = c.requires in
    node-known _ _ (walk_passed _ _ _ _ checked).tree_passes _ there

pub read_node-read_children-end-requires : goal.read_node-read_children-end-requires
read_node-read_children-end-requires t c =
    let a = c.args in
    let (checked, there) = c.requires in
    let passed = walk_passed _ _ _ _ checked in
    -- a node has at most four children
    let few : terminal_rank a.linked.now.alphabet.now (get_or a.tree.now.now a.at 0) ≤ 4 = rank-few _ passed.alphabet_passes _ in
    (omega arith, (checked, few, children-there _ _ passed.tree_passes _ there, refl))

pub read_node-step_closed-requires : goal.read_node-step_closed-requires
read_node-step_closed-requires t c =
    let (checked, there) = c.requires in
    node-known _ _ (walk_passed _ _ _ _ checked).tree_passes _ there

-- the node has a place in the slice
pub read_node-bounds-masks-at : goal.read_node-bounds-masks-at
read_node-bounds-masks-at t c =
    let (checked, there) = c.requires in
    omega (arith, c.read_children-end.auto.masks, (walk_passed _ _ _ _ checked).fits)

pub read_node-returns : goal.read_node-returns
read_node-returns t c =
    let (checked, there) = c.requires in
    let read = c.read_children-end in
    let (four, sets) = read.ensures.sets in
    let within : c.args.at < length read.new.masks = omega (arith, read.auto.masks, (walk_passed _ _ _ _ checked).fits) in
    let (end, noted) = node-read _ _ _ _ there read.new.sets within refl read.ensures.end read.ensures.noted sets c.step_closed.ensures in
    record { end = end; noted = noted }
