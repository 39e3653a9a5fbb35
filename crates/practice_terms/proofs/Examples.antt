-- The rows of practice sheets come out as they must.
use mathlib.Core.Path.{refl}
use Rattle.terms.specs.Test.{any, all, some, every, tabulate}
use Rattle.terms.specs.Bytes.{word}
use Rattle.terms.specs.Tree.{preorder, preorders, firsts, rest, pick, forest_of, tree_of, taking, wholes, join}
use Rattle.terms.specs.Context.{plug, compose}
use Rattle.terms.specs.Grammar.{name, name_of, rank_in, right_side, value, values, apply, derived}
use Rattle.terms.specs.Sheet.{body, read_rules, rules_body, rules_of, transition_count, sheet_tree, sheet_of, written_rules}
use Rattle.terms.specs.Check.{alphabet_refusal, transition_fits, automaton_refusal, rule_refusal, rules_refusal, joins, sheet_refusal}
use Rattle.terms.specs.Examples.{hex}
use Rattle.terms.proofs.Examples.{CallsHold}
use Rattle.practice_terms.specs.Draw.{next, draws, choices_by, choices}
use Rattle.practice_terms.specs.Practice.{grammar_of, practice_sheet, practice_refusal}
use Rattle.practice_terms.specs.Described.{contexts_from, practice_tree}
use Rattle.practice_terms.specs.Examples.{practice_rows, practice_refusals}

pub practice_holds : CallsHold practice_rows × CallsHold practice_refusals
unfolding any all some every tabulate word preorder preorders firsts rest pick forest_of tree_of taking wholes join plug compose name name_of rank_in right_side value values apply derived body read_rules rules_body rules_of transition_count sheet_tree sheet_of alphabet_refusal transition_fits automaton_refusal rule_refusal rules_refusal joins sheet_refusal hex next draws choices_by choices grammar_of written_rules practice_sheet practice_refusal contexts_from practice_tree practice_rows practice_refusals
practice_holds = (refl, refl)
