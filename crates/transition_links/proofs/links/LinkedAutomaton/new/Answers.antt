-- `transition_links::links::LinkedAutomaton::new` meets its contract: an automaton that passes its check is long enough, and has few transitions.
use mathlib.Core.Path.{refl}
use native.Mathlib.Omega.{arith}
use Rattle.terms.specs.Sheet.{transition_count}
use Rattle.terms.proofs.Sheet.Automaton.{automaton_passed}
use Rattle.transition_links.proofs.links.LinkedAutomaton.new.Goals as goal

pub overflow_sub-result : goal.overflow_sub-result
overflow_sub-result c = omega (arith, (automaton_passed _ _ c.requires.automaton).long)

pub link_transitions-requires : goal.link_transitions-requires
link_transitions-requires c =
    let passed = automaton_passed _ _ c.requires.automaton in
    (omega (arith, passed.long), passed.few)

pub invariant_of-result-clause-counted : goal.invariant_of-result-clause-counted
unfolding transition_count
invariant_of-result-clause-counted c = refl
