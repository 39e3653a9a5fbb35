-- `cleaning::sift::flag_children` meets its contract. The invariant: the children before the present one have their flags, and later flags are as they were.
use Rattle.nodes.specs.Nodes.{naming}
use Rattle.cleaning.specs.Sifting.{ChildrenFlagged}
use Rattle.cleaning.proofs.sift.flag_children.Given as goal

abbrev pub invariant-loop-child : goal.invariant-loop-child
invariant-loop-child l = ChildrenFlagged l.low l.notes.present l.kept (naming l.name) l.child l.initial.flags l.flags
