-- `cleaning::clean::clean_noting` meets its contract. The invariant: what is written is the body of the rules before the present one, cleaned, and they are noted.
use Rattle.std.proofs.Common.{◌≤◌, length}
use Rattle.cleaning.specs.Clean.{longest_body, GrammarBody}
use Rattle.cleaning.proofs.Cleaning.{Cleaning}
use Rattle.cleaning.proofs.clean.clean_noting.Given as goal

abbrev pub invariant-loop-number : goal.invariant-loop-number
invariant-loop-number l =
    (g : GrammarBody l.alphabet l.body) (enough : longest_body ≤ length l.initial.cleaned)
    → Cleaning g enough l.number-iterator.iter.body.now l.to l.number-iterator.count l.notes l.cleaned
