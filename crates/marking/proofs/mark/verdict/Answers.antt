-- `marking::mark::verdict` meets its contract: the mask and the final states share a state where they have a bit in common.
use borrow.Author.Rules.{rules}
use Rattle.marking.proofs.Shared.{declines, accepts}
use Rattle.marking.proofs.mark.verdict.Goals as goal

pub returns-then-mask-automaton-eq0 : goal.returns-then-mask-automaton-eq0
returns-then-mask-automaton-eq0 c = declines _ _ c.if-mask-automaton-eq0.true

pub returns : goal.returns
returns c = accepts _ _ (search rules) c.if-mask-automaton-eq0.false
