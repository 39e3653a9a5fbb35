-- The rows of tables come out as they must.
use mathlib.Core.Path.{refl}
use Rattle.terms.specs.Test.{any, all, some, every, tabulate}
use Rattle.terms.specs.Bytes.{word}
use Rattle.terms.specs.Tree.{firsts, rest, pick, forest_of, tree_of, taking, wholes}
use Rattle.terms.specs.Grammar.{name, name_of, rank_in, right_side, value, values, apply, derived}
use Rattle.terms.specs.Automaton.{bit, has, set_of, all_in, fires, step, mask, masks}
use Rattle.terms.specs.Sheet.{body, read_rules, rules_body, rules_of, transition_count, transition_at, transitions_of, sheet_tree, sheet_mask, sheet_of}
use Rattle.terms.specs.Check.{alphabet_refusal, transition_fits, automaton_refusal, rule_refusal, rules_refusal, joins, sheet_refusal}
use Rattle.terms.specs.Examples.{hex, W}
use Rattle.terms.proofs.Examples.{CallsHold}
use Rattle.cleaning_terms.specs.Presence.{leaves, open_tree}
use Rattle.blackboard_terms.specs.Blackboard.{entering, state_at, is_choice, table_byte, blackboard_refusal}
use Rattle.blackboard_terms.specs.Examples.{not_zero, blackboard_rows}

pub blackboard_holds : CallsHold blackboard_rows
unfolding any all some every tabulate word firsts rest pick forest_of tree_of taking wholes name name_of rank_in right_side value values apply derived bit has set_of all_in fires step mask masks body read_rules rules_body rules_of transition_count transition_at transitions_of sheet_tree sheet_mask sheet_of alphabet_refusal transition_fits automaton_refusal rule_refusal rules_refusal joins sheet_refusal hex W leaves open_tree entering state_at is_choice table_byte blackboard_refusal not_zero blackboard_rows
blackboard_holds = refl
