-- `table_read` meets its contract: the parts of a sheet that was read are a grammar over its alphabet and an automaton, and its start is its last rule.
use native.Mathlib.Omega.{arith}
use Rattle.blackboard.proofs.Tabled.{some-rule, ready, sheet-tabled}
use Rattle.blackboard.proofs.table_read.Goals as goal

pub write_tables-requires : goal.write_tables-requires
write_tables-requires c =
    let sheet = c.args.sheet.now in
    ready sheet.bytes.now sheet.passes sheet.counted sheet.alphabet_is sheet.rules_are sheet.automaton_is c.args.table.now c.requires

pub overflow_sub-result : goal.overflow_sub-result
overflow_sub-result c = let sheet = c.args.sheet.now in omega (arith, some-rule sheet.bytes.now sheet.passes sheet.counted)

pub bounds-table-sheet : goal.bounds-table-sheet
bounds-table-sheet c =
    let sheet = c.args.sheet.now in
    (sheet-tabled sheet.bytes.now sheet.passes sheet.counted sheet.alphabet_is sheet.rules_are sheet.automaton_is _ _ c.write_tables.ensures).inside

pub returns : goal.returns
returns c =
    let sheet = c.args.sheet.now in
    let tabled = sheet-tabled sheet.bytes.now sheet.passes sheet.counted sheet.alphabet_is sheet.rules_are sheet.automaton_is _ _ c.write_tables.ensures in
    record { value = tabled.mask; table_after = tabled.left }
