-- `forms::opened::part_form` meets its contract: what passes the check has a head, a valid table and a start.
use mathlib.Core.Path.{refl, sym}
use Rattle.forms.proofs.Rules.{opens, opened-head, opened-table, opened-start}
use Rattle.forms.proofs.opened.part_form.Goals as goal

pub table_of-requires : goal.table_of-requires
table_of-requires c = opened-head _ _ (sym c.requires)

pub start_of-requires : goal.start_of-requires
start_of-requires c = opened-head _ _ (sym c.requires)

pub invariant_of-result : goal.invariant_of-result
invariant_of-result c = record { valid = opened-table _ _ (sym c.requires) _ c.table_of.ensures }

pub invariant_of-result-2 : goal.invariant_of-result-2
invariant_of-result-2 c = record { start_low = opened-start _ _ (sym c.requires) _ c.table_of.ensures _ c.start_of.ensures }

pub returns : goal.returns
returns c =
    let (a, f) = opens _ _ (sym c.requires) in
    record { ranked = a; valid = f; ranks = refl; bytes = c.table_of.ensures; start = c.start_of.ensures }
