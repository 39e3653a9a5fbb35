-- `automata::check::check_automaton` meets its contract: the tests are those of the definition, in its order. An automaton of no wrong length has the two bytes of its head.
use mathlib.Core.Path.{◌≡◌, sym, ◌∙◌}
use mathlib.Core.Bool.{Bool, false, ◌||◌}
use Prim.Native.Nat.{ℕ, ◌<◌}
use native.Mathlib.Omega.{arith}
use borrow.Author.Tests.{ltb-false}
use lib.Dec.{ltb}
use Rattle.terms.specs.Check.{automaton_refusal}
use Rattle.terms.proofs.Test.{or_false}
use Rattle.automata.proofs.check.check_automaton.Goals as goal

-- byte k of the head is there
has-head : (k n : ℕ) (wrong others : Bool) → k < 2 → wrong ≡ ltb n 2 || others → wrong ≡ false → k < n
has-head k n wrong others h e left = omega (arith, ltb-false n 2 (or_false (ltb n 2) others (sym e ∙ left)).0)

pub returns-then-wrong_length : goal.returns-then-wrong_length
unfolding automaton_refusal
returns-then-wrong_length c = rw (← c.wrong_length.ensures, c.if-wrong_length.true)

pub returns-then-wrong_states : goal.returns-then-wrong_states
unfolding automaton_refusal
returns-then-wrong_states c =
    rw (← c.wrong_length.ensures, c.if-wrong_length.false, ← c.wrong_states.ensures, c.if-wrong_states.true)

pub returns-then-not-transitions_fit : goal.returns-then-not-transitions_fit
unfolding automaton_refusal
returns-then-not-transitions_fit c =
    rw (
      ← c.wrong_length.ensures,
      c.if-wrong_length.false,
      ← c.wrong_states.ensures,
      c.if-wrong_states.false,
      ← c.transitions_fit.ensures,
      c.if-not-transitions_fit.true,
    )

pub returns : goal.returns
unfolding automaton_refusal
returns c =
    rw (
      ← c.wrong_length.ensures,
      c.if-wrong_length.false,
      ← c.wrong_states.ensures,
      c.if-wrong_states.false,
      ← c.transitions_fit.ensures,
      c.if-not-transitions_fit.false,
    )
