-- `counting::table::CountedRules::before_of` meets its contract: the counts of each rule of the table are there.
use Rattle.counting.proofs.Counted.{counts-there}
use Rattle.counting.proofs.table.CountedRules.before_of.Goals as goal

pub before_of-requires : goal.before_of-requires
before_of-requires c = counts-there c.args.self.now.known _ c.requires
