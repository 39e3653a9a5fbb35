-- `adding::add::add_checked` meets its contract: the automaton is lengthened and the form parted, the slice has the entries of its table, and the answer is the low byte of
-- the start's.
use mathlib.Core.Path.{refl, ap, ◌∙◌}
use mathlib.Core.List.{List}
use Prim.Native.Nat.{ℕ}
use native.Mathlib.Omega.{arith}
use lib.ListN.{length, length-append}
use Rattle.terms.specs.Calls.{lent_after, opening_refusal}
use Rattle.adding_terms.proofs.Carried.{adding_passed}
use Rattle.forms.proofs.Rules.{rules_in_table}
use Rattle.adding.proofs.Lengthened.{front-within}
use Rattle.adding.proofs.Added.{front, form-redone, start-mask}
use Rattle.adding.proofs.add.add_checked.Goals as goal

pub lengthen-requires : goal.lengthen-requires
lengthen-requires c =
    let p = (adding_passed _ _ _ _ _ c.requires).addition in
    omega (arith, p.six, p.room, p.old.long)

pub bounds-transition-0 : goal.bounds-transition-0
bounds-transition-0 c = omega (arith, (adding_passed _ _ _ _ _ c.requires).addition.six)

pub part_form-opened-requires : goal.part_form-opened-requires
unfolding opening_refusal
part_form-opened-requires c =
    let p = adding_passed _ _ _ _ _ c.requires in
    rw (p.alphabet_passes, p.form_passes) refl

pub slice_bounds-longer-end : goal.slice_bounds-longer-end
slice_bounds-longer-end c =
    let a = c.args in
    omega (arith, (adding_passed _ _ _ _ _ c.requires).addition.six, front-within a.automaton.now a.transition.now _ _ c.lengthen.ensures)

pub slice_bounds-new-end : goal.slice_bounds-new-end
slice_bounds-new-end c =
    let a = c.args in
    let is = front _ _ _ _ _ c.requires _ _ c.lengthen.ensures in
    omega (arith, (adding_passed _ _ _ _ _ c.requires).addition.six, ap length is, length-append a.automaton.now a.transition.now)

pub new-evaluator-requires : goal.new-evaluator-requires
new-evaluator-requires c =
    rw (c.part_form-opened.ensures.ranks, front _ _ _ _ _ c.requires _ _ c.lengthen.ensures) (adding_passed _ _ _ _ _ c.requires).addition.passes

pub redo_relations-requires : goal.redo_relations-requires
redo_relations-requires c =
    let p = adding_passed _ _ _ _ _ c.requires in
    rw (c.new-evaluator.ensures.bytes, c.part_form-opened.ensures.bytes) (omega (arith, p.room, rules_in_table _ _ p.alphabet_passes p.form_passes))

pub returns : goal.returns
returns c =
    let a = c.args in
    let opened = c.part_form-opened.ensures in
    let given = c.new-evaluator.ensures in
    let entries = rw (given.alphabet, opened.ranks, given.automaton, given.bytes, opened.bytes) at c.redo_relations.ensures in
    let written = entries
    ∙ ap (λ (xs : List ℕ). lent_after 0 xs a.relations.now) (form-redone _ _ _ _ _ c.requires _ _ _ refl (front _ _ _ _ _ c.requires _ _ c.lengthen.ensures) refl) in
    record { value = c.states_of.ensures ∙ start-mask _ _ _ _ _ c.requires _ written _ opened.start; relations_after = written }
