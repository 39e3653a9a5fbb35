-- `automata::check::transition_fits` meets its contract: the tests are those of the definition, in its order.
use native.Mathlib.Nat.{add-zero}
use borrow.Author.Tests.{lt-ltb, le-ltb}
use Rattle.terms.specs.Check.{transition_fits}
use Rattle.automata.proofs.check.transition_fits.Goals as goal

pub returns-then-alphabet-terminal : goal.returns-then-alphabet-terminal
unfolding transition_fits
returns-then-alphabet-terminal c = rw (add-zero, le-ltb _ _ c.if-alphabet-terminal.true)

pub returns-then-automaton-target : goal.returns-then-automaton-target
unfolding transition_fits
returns-then-automaton-target c = rw (add-zero, lt-ltb _ _ c.if-alphabet-terminal.false, le-ltb _ _ c.if-automaton-target.true)

pub returns : goal.returns
unfolding transition_fits
returns c =
    rw (
      add-zero,
      lt-ltb _ _ c.if-alphabet-terminal.false,
      lt-ltb _ _ c.if-automaton-target.false,
      ← c.rank_of.ensures,
      ← c.children_fit.ensures,
    )
