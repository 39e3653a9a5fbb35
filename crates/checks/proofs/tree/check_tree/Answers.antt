-- `checks::tree::check_tree` meets its contract: the tests are those of the definition, in its order.
use borrow.Author.Tests.{lt-ltb, le-ltb}
use Rattle.terms.specs.Check.{tree_refusal}
use Rattle.checks.proofs.tree.check_tree.Goals as goal

pub returns-then-most-tree : goal.returns-then-most-tree
unfolding tree_refusal
returns-then-most-tree c = rw (lt-ltb _ _ c.if-most-tree.true)

pub returns-then-not-is_tree : goal.returns-then-not-is_tree
unfolding tree_refusal
returns-then-not-is_tree c = rw (le-ltb _ _ c.if-most-tree.false, ← c.is_tree.ensures, c.if-not-is_tree.true)

pub returns : goal.returns
unfolding tree_refusal
returns c = rw (le-ltb _ _ c.if-most-tree.false, ← c.is_tree.ensures, c.if-not-is_tree.false)
