-- `entries::entry::slot_states` meets its contract: each place has the states of its slot.
use borrow.Author.Rules.{rules}
use Rattle.terms.specs.Relation.{states_at}
use Rattle.entries.proofs.entry.slot_states.Goals as goal

pub returns : goal.returns
unfolding states_at
returns c = search rules
