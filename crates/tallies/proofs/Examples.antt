-- The list and the steps come out as they must.
use mathlib.Core.Path.{◌≡◌, refl}
use mathlib.Core.List.{map}
use Rattle.terms.specs.Test.{any, all, some, every, tabulate}
use Rattle.terms.specs.Bytes.{word}
use Rattle.terms.specs.Tree.{firsts, rest, pick, forest_of, tree_of, taking, wholes}
use Rattle.terms.specs.Grammar.{name, rank_in, right_side, value, values, apply, derived}
use Rattle.terms.specs.Automaton.{bit, has, set_of, all_in, fires, step, mask, masks}
use Rattle.terms.specs.Table.{entry}
use Rattle.terms.specs.Sheet.{body, read_rules, rules_body, rules_of, nodes_of, transition_count, transition_at, transitions_of, sheet_tree, sheet_mask, sheet_verdict}
use Rattle.terms.specs.Check.{alphabet_refusal, transition_fits, automaton_refusal, rule_refusal, rules_refusal, joins, sheet_refusal}
use Rattle.terms.specs.Calls.{making_refusal, sheet_marking_refusal}
use Rattle.terms.specs.Examples.{hex, W}
use Rattle.tallies.specs.Turn.{without}
use Rattle.tallies.specs.Counts.{zero_counts}
use Rattle.tallies.specs.Lists.{final_counts, answers}
use Rattle.tallies.specs.OneSet.{old_totals}
use Rattle.tallies.specs.Claims.{totals_of}
use Rattle.tallies.specs.Examples.{listed, listed_answers, listed_counts, listed_totals, steps}

pub list_holds : (map (λ a. a.what) (answers zero_counts listed) ≡ listed_answers)
    × (final_counts zero_counts listed ≡ listed_counts)
    × (totals_of listed ≡ listed_totals)
unfolding any all some every tabulate word firsts rest pick forest_of tree_of taking wholes name rank_in right_side value values apply derived bit has set_of all_in fires step mask masks entry body read_rules rules_body rules_of nodes_of transition_count transition_at transitions_of sheet_tree sheet_mask sheet_verdict alphabet_refusal transition_fits automaton_refusal rule_refusal rules_refusal joins sheet_refusal making_refusal sheet_marking_refusal hex W without final_counts answers old_totals listed
list_holds = (refl, refl, refl)

pub steps_hold : map (λ r. r.gives) steps ≡ map (λ r. r.says) steps
unfolding any steps
steps_hold = refl
