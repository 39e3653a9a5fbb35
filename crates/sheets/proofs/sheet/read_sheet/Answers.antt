-- `sheets::sheet::read_sheet` meets its contract: the counts of the rules that are read are those of the sheet.
use Rattle.std.proofs.Common.{sym}
use Rattle.terms.proofs.Sheet.Passed.{alphabet_passed}
use Rattle.sheets.proofs.Counts.{sheet_counted}
use Rattle.sheets.proofs.sheet.read_sheet.Goals as goal

pub invariant_of-result-clause-counted : goal.invariant_of-result-clause-counted
invariant_of-result-clause-counted c = (sheet_counted c.args.sheet.now _ c.bodies_of.ensures.rules c.in_ok-count.ensures).count

pub invariant_of-result-clause-asked_for : goal.invariant_of-result-clause-asked_for
invariant_of-result-clause-asked_for c = (sheet_counted c.args.sheet.now _ c.bodies_of.ensures.rules c.in_ok-count.ensures).asked

pub invariant_of-result-clause-few_terminals : goal.invariant_of-result-clause-few_terminals
invariant_of-result-clause-few_terminals c = (alphabet_passed _ (sym c.in_ok-check_alphabet.ensures)).few

pub invariant_of-result-clause-few_asked : goal.invariant_of-result-clause-few_asked
invariant_of-result-clause-few_asked c = (sheet_counted c.args.sheet.now _ c.bodies_of.ensures.rules c.in_ok-count.ensures).few
