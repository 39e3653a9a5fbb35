use mathlib.Core.Path.{◌≡◌, refl, sym, ◌∙◌, ap}
use Prim.Native.Nat.{ℕ, ◌+◌, ◌-◌, ◌*◌, ◌<◌}
use native.Mathlib.Omega.{arith}
use lib.ListN.{length, take, drop, replicate, length-take, length-drop}
use Rattle.terms.specs.Grammar.{rule_rank}
use Rattle.terms.specs.Check.{most_rules}
use Rattle.terms.proofs.Sheet.Automaton.{automaton_passed}
use Rattle.blackboard_terms.specs.Blackboard.{table_length}
use Rattle.rule_tables.specs.Choice.{choices_of}
use Rattle.rule_tables.proofs.Filling.{filling_none, filling_skip, side_ready, filling_more, filling_all, lanes_few, lanes-are, choices-are, choice_few}
use Rattle.rule_tables.proofs.table.write_table.Goals as goal
use Rattle.rule_tables.proofs.table.write_table.Goals.{then-are_states, else-are_states}

pub bounds-linked-0 : goal.bounds-linked-0
bounds-linked-0 c = omega (arith, (automaton_passed _ _ c.args.linked.now.automaton_passes).long)

pub loop-choice-init : goal.loop-choice-init
loop-choice-init c = λ g.
    (let n : length (take (table_length * c.args.rule.0 + table_length - table_length * c.args.rule.0) (drop (table_length * c.args.rule.0) c.args.tables.now)) ≡ table_length =
    simp (length-take, length-drop) (omega (arith, g.room)) in
    filling_none g _ (c.fill.ensures.after (λ y e. e) ∙ ap (λ (k : ℕ). replicate k 0) n))

pub side_relation-relation-requires : goal.side_relation-relation-requires
side_relation-relation-requires c =
    let g = c.requires in
    side_ready g (c.loop-choice.invariant g) (omega (arith, choices-are g c.choices_of-choices.ensures)) (sym c.are_states.ensures ∙ c.if-are_states.true) _
    (lanes-are g c.lanes_of-lanes.ensures)

pub overflow_mul-at : goal.overflow_mul-at
overflow_mul-at c = omega (arith, choice_few c.requires {choice = c.loop-choice.choice} c.choices_of-choices.ensures (omega arith))

pub overflow_add-at : goal.overflow_add-at
overflow_add-at c =
    let few : c.args.rule.0 < most_rules = omega (arith, c.requires.given.inside, c.requires.given.proper.few) in
    omega (arith, choice_few c.requires {choice = c.loop-choice.choice} c.choices_of-choices.ensures (omega arith), few)

pub slice_bounds-write_lanes-count : goal.slice_bounds-write_lanes-count
slice_bounds-write_lanes-count c = omega (arith, choice_few c.requires {choice = c.loop-choice.choice} c.choices_of-choices.ensures (omega arith))

pub slice_bounds-write_lanes-start : goal.slice_bounds-write_lanes-start
slice_bounds-write_lanes-start c = omega (arith, choice_few c.requires {choice = c.loop-choice.choice} c.choices_of-choices.ensures (omega arith))

pub write_lanes-requires : goal.write_lanes-requires
write_lanes-requires c =
    let g = c.requires in
    let few = choice_few g {choice = c.loop-choice.choice} c.choices_of-choices.ensures (omega arith) in
    let lanes = lanes-are g c.lanes_of-lanes.ensures in
    (omega (arith, lanes, lanes_few g), simp (length-take, length-drop) (omega (arith, few, lanes, lanes_few g, g.room, (c.loop-choice.invariant g).long)))

pub loop-choice-preserved : goal.loop-choice-preserved
loop-choice-preserved c = λ g.
    (let f = c.loop-choice.invariant g in
    let lanes = lanes-are g c.lanes_of-lanes.ensures in
    let more : c.loop-choice.choice < choices_of (rule_rank g.given.rules c.args.rule.0) = omega (arith, choices-are g c.choices_of-choices.ensures) in
    elim c.if-are_states.branch [
      | then-are_states w ↦
          let states = sym c.are_states.ensures ∙ w.if-are_states.true in
          rw w.tables-is (filling_more g f more states _ lanes _ (w.side_relation-relation.ensures (side_ready g f more states _ lanes)) _ _ refl w.write_lanes.ensures)
      | else-are_states w ↦ rw w.tables-is (filling_skip g f (sym c.are_states.ensures ∙ w.if-are_states.false))
    ])

pub returns : goal.returns
returns c =
    let f = c.loop-choice.invariant c.requires in
    record {
      long = f.long;
      before = f.before;
      behind = f.behind;
      bytes = λ g k h. filling_all g (c.loop-choice.invariant g) (omega (arith, choices-are g c.choices_of-choices.ensures)) k h;
    }
