-- `counting::table::CountedRules::own_of` meets its contract: the counts of each rule of the table are there.
use Rattle.counting.proofs.Counted.{counts-there}
use Rattle.counting.proofs.table.CountedRules.own_of.Goals as goal

pub own_of-requires : goal.own_of-requires
own_of-requires c = counts-there c.args.self.now.known _ c.requires
