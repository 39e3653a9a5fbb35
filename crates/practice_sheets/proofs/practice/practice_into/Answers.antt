-- `practice_sheets::practice::practice_into` meets its contract: the rules are drawn into a local array, and the sheet of that body is written where it fits.
use Rattle.std.proofs.Common.{◌≡◌, ℕ, List, length, ap, arith, lt-ltb, le-ltb}
use Rattle.terms.specs.Answer.{answered}
use Rattle.practice_terms.specs.Practice.{practice_sheet, given_refusal}
use Rattle.practice_terms.proofs.Sheet.{given_passed, PracticeLengths, practice_lengths}
use Rattle.practice_sheets.proofs.practice.practice_into.Goals as goal

lengths : (first m : ℕ) (automaton : List ℕ) → given_refusal m automaton ≡ 0 → PracticeLengths first m automaton
lengths first m automaton e = let passed = given_passed m automaton e in practice_lengths first m passed.few automaton passed.automaton_passes

pub returns-then-sheet-end : goal.returns-then-sheet-end
returns-then-sheet-end c =
    let l = lengths c.args.first c.args.m c.args.automaton.now c.requires in
    let asked = length (practice_sheet c.args.first c.args.m c.args.automaton.now) in
    let short = lt-ltb (length c.args.sheet.now) asked (omega (arith, c.write_rules-end.ensures.0, l.sheet-bytes)) in
    record { result_value = rw short; sheet_after = rw short }

pub write_sheet-requires : goal.write_sheet-requires
write_sheet-requires c = omega (arith, lengths c.args.first c.args.m c.args.automaton.now c.requires, c.write_rules-end.ensures.0, ap length c.write_rules-end.ensures.1)

pub returns : goal.returns
unfolding practice_sheet
returns c =
    let l = lengths c.args.first c.args.m c.args.automaton.now c.requires in
    let asked = length (practice_sheet c.args.first c.args.m c.args.automaton.now) in
    let put = rw c.write_rules-end.ensures.1 at c.write_sheet.ensures in
    let fits = le-ltb (length c.args.sheet.now) asked (omega (arith, c.write_rules-end.ensures.0, l.sheet-bytes)) in
    record { result_value = rw fits (ap answered put.answer); sheet_after = rw fits put.slice }
