-- `adding::refusal::wrong_transition` meets its contract: the transition is tested as the only one of an automaton with the same states, by the same bytes.
use native.Mathlib.Omega.{arith}
use Rattle.terms.proofs.Sheet.Automaton.{AutomatonPassed, automaton_passed}
use Rattle.adding.proofs.Alone.{alone-fits}
use Rattle.adding.proofs.refusal.wrong_transition.Goals as goal

pub bounds-automaton-0 : goal.bounds-automaton-0
bounds-automaton-0 c =
    let passed : AutomatonPassed c.args.alphabet.now c.args.automaton.now = automaton_passed _ _ c.requires in
    omega (arith, passed.long)

pub returns : goal.returns
returns c =
    let passed : AutomatonPassed c.args.alphabet.now c.args.automaton.now = automaton_passed _ _ c.requires in
    alone-fits _ _ c.args.transition.now passed.long c.if-transition-ne-TRANSITION.false _ _ c.copy_at.ensures c.transition_fits.ensures
