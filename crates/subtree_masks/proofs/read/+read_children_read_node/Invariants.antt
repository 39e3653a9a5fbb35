-- The measures of the two functions, and the loop's invariant. A node has at most 4 children, so 5 times the remaining bytes falls from a node to its children,
-- with one more for each child that `read_children` reads as a node.
use Rattle.std.proofs.Common.{◌-◌, ◌≡◌, length, take, ◌+◌, ◌*◌}
use Rattle.subtree_masks.specs.Readers.{Noted, end_of, masks_from}
use Rattle.subtree_masks.proofs.read.+read_children_read_node.Given as goal

abbrev pub decreases-read_children : goal.decreases-read_children
decreases-read_children l = 5 * (length l.tree.now.now - l.at) + l.children

abbrev pub decreases-read_node : goal.decreases-read_node
decreases-read_node l = 5 * (length l.tree.now.now - l.at)

-- the first j children are read, their masks are in the sets, and `end` is where the next one begins
abbrev pub invariant-read_children-loop-j : goal.invariant-read_children-loop-j
invariant-read_children-loop-j l = record {
  kept : length l.masks ≡ length l.initial.masks;
  room : length l.sets ≡ 4;
  ends : l.end ≡ end_of l.linked.alphabet.now l.tree.now l.at l.j;
  noted : Noted l.linked.alphabet.now l.linked.automaton.now l.tree.now l.at l.end l.initial.masks l.masks;
  read : take l.j l.sets ≡ masks_from l.linked.alphabet.now l.linked.automaton.now l.tree.now l.at l.j;
}
