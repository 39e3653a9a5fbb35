-- `wrapping::wrap::one_rule` meets its contract: the tree is copied behind the rank and the node count.
use native.Mathlib.Omega.{arith}
use lib.ListN.{length}
use Rattle.wrapping.proofs.OneRule.{rule_put}
use Rattle.wrapping.proofs.wrap.one_rule.Goals as goal

pub returns : goal.returns
returns c = rw c.copy_from_slice.ensures.after (rule_put c.args.rules.now c.args.tree.now (length c.args.tree.now) (omega arith))
