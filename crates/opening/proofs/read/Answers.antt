-- `opening::read` meets its contract: opening a form and then reading by number answers what reading it at once does.
use mathlib.Core.Path.{◌∙◌}
use Rattle.opening.proofs.Once.{opened-once}
use Rattle.opening.proofs.read.Goals as goal

pub returns : goal.returns
returns c = c.rule.ensures ∙ opened-once c.args.alphabet.now c.args.form c.open.result (c.open.ensures.refusal, c.open.ensures.parts) c.args.number.0
