-- `evaluation::evaluate::evaluate_checked` meets its contract: the form is parted, the slice has the entries of its table, and the answer is the low byte of the start's.
use mathlib.Core.Path.{refl, ◌∙◌}
use native.Mathlib.Omega.{arith}
use Rattle.terms.specs.Calls.{opening_refusal}
use Rattle.terms.proofs.Form.Bytes.{table_count_lem}
use Rattle.evaluation.proofs.Passed.{evaluation_passed}
use Rattle.evaluation.proofs.Entries.{form_written, start-mask}
use Rattle.evaluation.proofs.evaluate.evaluate_checked.Goals as goal

pub part_form-opened-requires : goal.part_form-opened-requires
unfolding opening_refusal
part_form-opened-requires c =
    let p = evaluation_passed _ _ _ _ c.requires in
    rw (p.alphabet_passes, p.form_passes) refl

pub new-evaluator-requires : goal.new-evaluator-requires
new-evaluator-requires c = rw c.part_form-opened.ensures.ranks (evaluation_passed _ _ _ _ c.requires).automaton_passes

pub write_entries-requires : goal.write_entries-requires
write_entries-requires c =
    let p = evaluation_passed _ _ _ _ c.requires in
    rw (c.count.ensures, c.new-evaluator.ensures.bytes, c.part_form-opened.ensures.bytes) (omega arith, omega arith, omega (arith, p.room, table_count_lem c.args.form.now p.valid.long))

pub returns : goal.returns
returns c =
    let p = evaluation_passed _ _ _ _ c.requires in
    let opened = c.part_form-opened.ensures in
    let given = c.new-evaluator.ensures in
    let entries = rw (given.alphabet, opened.ranks, given.automaton, given.bytes, opened.bytes) at c.write_entries.ensures in
    let written = form_written p _ refl _ (rw opened.bytes at c.count.ensures) _ entries in
    record { value = c.states_of.ensures ∙ start-mask p _ _ written _ opened.start; relations_after = written }
