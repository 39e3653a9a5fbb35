-- `automata::check::wrong_length` meets its contract: the tests are those of the definition, in its order.
use borrow.Author.Tests.{lt-ltb, le-ltb, eq-eqb, ne_eqb}
use Rattle.automata.proofs.check.wrong_length.Goals as goal

pub returns-then-length-lt-HEAD : goal.returns-then-length-lt-HEAD
returns-then-length-lt-HEAD c = rw (lt-ltb _ _ c.if-length-lt-HEAD.true)

pub returns-then-length-ne0 : goal.returns-then-length-ne0
returns-then-length-ne0 c = rw (le-ltb _ _ c.if-length-lt-HEAD.false, ne_eqb _ _ c.if-length-ne0.true)

pub returns : goal.returns
returns c = rw (le-ltb _ _ c.if-length-lt-HEAD.false, eq-eqb _ _ c.if-length-ne0.false, c.transition_count.ensures)
