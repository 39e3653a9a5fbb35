-- `opening::check_and_count` meets its contract: a form that opens has a head.
use Rattle.forms.proofs.Rules.{opened-head}
use Rattle.opening.proofs.check_and_count.Goals as goal

pub rule_count-requires : goal.rule_count-requires
rule_count-requires c = opened-head _ _ c.in_ok-check_opening.ensures
