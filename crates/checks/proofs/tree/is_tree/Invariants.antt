-- `checks::tree::is_tree` meets its contract. The invariant: what was seen of the nodes from i on. There are no more trees than nodes, so their number fits.
use Prim.Native.Nat.{◌+◌, ◌≤◌}
use lib.ListN.{length}
use Rattle.checks.proofs.tree.Seen.{Seen}
use Rattle.checks.proofs.tree.is_tree.Given as goal

abbrev pub invariant-loop-i : goal.invariant-loop-i
invariant-loop-i l = (l.trees + l.i ≤ length l.tree) × Seen l.alphabet l.tree l.i l.trees
