-- `checks::alphabet::check_alphabet` meets its contract: the tests are those of the definition, in its order.
use borrow.Author.Tests.{lt-ltb, le-ltb}
use Rattle.terms.specs.Check.{alphabet_refusal}
use Rattle.checks.proofs.alphabet.check_alphabet.Goals as goal
use Rattle.checks.proofs.alphabet.check_alphabet.Goals.{then-alphabet-lt1-via-then-alphabet-lt1, then-alphabet-lt1-via-else-alphabet-lt1+then-alphabet-gt-MOST_TERMINALS}

pub returns-then-alphabet-lt1 : goal.returns-then-alphabet-lt1
unfolding alphabet_refusal
returns-then-alphabet-lt1 c =
    elim c.then-alphabet-lt1.branch [
      | then-alphabet-lt1-via-then-alphabet-lt1 w ↦ rw (lt-ltb _ _ w.if-alphabet-lt1.true)
      | then-alphabet-lt1-via-else-alphabet-lt1+then-alphabet-gt-MOST_TERMINALS w ↦ rw (le-ltb _ _ w.if-alphabet-lt1.false, lt-ltb _ _ w.if-alphabet-gt-MOST_TERMINALS.true)
    ]

pub returns-then-not-ranks_fit : goal.returns-then-not-ranks_fit
unfolding alphabet_refusal
returns-then-not-ranks_fit c =
    rw (le-ltb _ _ c.if-alphabet-lt1.false, le-ltb _ _ c.if-alphabet-gt-MOST_TERMINALS.false, ← c.ranks_fit.ensures, c.if-not-ranks_fit.true)

pub returns : goal.returns
unfolding alphabet_refusal
returns c =
    rw (le-ltb _ _ c.if-alphabet-lt1.false, le-ltb _ _ c.if-alphabet-gt-MOST_TERMINALS.false, ← c.ranks_fit.ensures, c.if-not-ranks_fit.false)
