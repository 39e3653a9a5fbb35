-- `adding::add::lengthen` meets its contract: the two copies lie one behind the other.
use Rattle.adding.proofs.Lengthened.{copied_twice}
use Rattle.adding.proofs.add.lengthen.Goals as goal

pub returns : goal.returns
returns c =
    let a = c.args in
    copied_twice a.automaton.now a.transition.now a.slice.now _ _ c.copy_at.ensures c.copy_at-2.ensures
