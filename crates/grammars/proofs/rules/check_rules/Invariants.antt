-- `grammars::rules::check_rules` meets its contract. The loop's invariant: the rules before the present one are not refused, the array holds their ranks, and the
-- others are left; what is asked for them and what the rules from the present one on add is the sum over all. With all rules passed, the
-- rank of the last decides 13.
use Rattle.grammars.proofs.EachRule.{Checked}
use Rattle.grammars.proofs.rules.check_rules.Given as goal

abbrev pub invariant-loop-number : goal.invariant-loop-number
invariant-loop-number l = Checked l.alphabet l.body l.ranks l.asked l.number-iterator.iter.body.now l.number-iterator.count
