-- `counting::counts::count_nodes` meets its contract. The invariant: the counts of the rules below the present one are written, and the numbers behind them are as they were.
use mathlib.Core.Path.{◌≡◌}
use mathlib.Core.List.{◌++◌}
use Prim.Native.Nat.{◌*◌}
use lib.ListN.{length, drop}
use Rattle.terms.specs.FormBytes.{table_rules}
use Rattle.terms.specs.Calls.{counts_per_rule}
use Rattle.counting.specs.Private.Counts.{counts_below}
use Rattle.counting.proofs.counts.count_nodes.Given as goal

abbrev pub invariant-loop-number : goal.invariant-loop-number
invariant-loop-number l =
    (l.counts ≡ counts_below (table_rules l.table.alphabet.now l.table.bytes.now) l.number ++ drop (counts_per_rule * l.number) l.initial.counts)
    × (length l.counts ≡ length l.initial.counts)
