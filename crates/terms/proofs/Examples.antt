-- The proved table: the definitions give, for every sheet and every call of the examples, what documents 01 and 02 say.
use mathlib.Core.Path.{◌≡◌, refl}
use mathlib.Core.List.{List, map}
use Rattle.terms.specs.Test.{any, all, some, every, tabulate, joined}
use Rattle.terms.specs.Bytes.{word}
use Rattle.terms.specs.Tree.{preorder, preorders, firsts, rest, pick, forest_of, tree_of, taking, wholes, join}
use Rattle.terms.specs.Context.{plug, compose, before, after}
use Rattle.terms.specs.Grammar.{name, rank_in, right_side, value, values, apply, derived}
use Rattle.terms.specs.Automaton.{bit, has, set_of, all_in, fires, step, mask, masks, through}
use Rattle.terms.specs.Table.{entry}
use Rattle.terms.specs.Form.{tree_in, context_in, trees_at, value_of, value_at}
use Rattle.terms.specs.Relation.{matrix, relation, related, compose_bits, apply_bits, entry_of}
use Rattle.terms.specs.Sheet.{body, read_rules, rules_body, rules_of, nodes_of, transition_count, transition_at, transitions_of, sheet_tree, sheet_mask, sheet_verdict, sheet_of, wrapped}
use Rattle.terms.specs.Check.{alphabet_refusal, is_tree, tree_refusal, transition_fits, automaton_refusal, rule_refusal, rules_refusal, joins, sheet_refusal}
use Rattle.terms.specs.FormBytes.{table_rule, table_rules, form_tree, rule_fits, valid_form, same_alphabet, form_refusal, rules_bytes, form_bytes}
use Rattle.terms.specs.Count.{size_answer}
use Rattle.terms.specs.Calls.{making_refusal, sheet_marking_refusal, opening_refusal, reading_refusal, evaluation_refusal, relations_of, form_mask, rules_counts, size_refusal, unfolding_refusal, label_refusal, label_at, walk_refusal, walk_mask, walk_masks, wrap_refusal}
use Rattle.terms.specs.Examples.{SheetRow, hex, times, outcome, W, K7, K8, desk, papers, sheet_refusals, empty_places}
use Rattle.terms.specs.CallExamples.{CallRow, form, field_refusals, alphabets, composing, rooms, calls}

-- each sheet comes out as its row says
abbrev pub SheetsHold : List SheetRow → Type 0
SheetsHold rows = map (λ r. outcome r.sheet) rows ≡ map (λ r. r.out) rows

-- each call gives what its row says
abbrev pub CallsHold : List CallRow → Type 0
CallsHold rows = map (λ r. r.gives) rows ≡ map (λ r. r.says) rows

-- all rows hold
pub table_holds : SheetsHold desk × SheetsHold papers × SheetsHold sheet_refusals × SheetsHold empty_places × CallsHold field_refusals × CallsHold alphabets × CallsHold composing × CallsHold rooms × CallsHold calls
unfolding any all some every tabulate joined word preorder preorders firsts rest pick forest_of tree_of taking wholes join plug compose before after name rank_in right_side value values apply derived bit has set_of all_in fires step mask masks through entry tree_in context_in trees_at value_of value_at matrix relation related compose_bits apply_bits entry_of body read_rules rules_body rules_of nodes_of transition_count transition_at transitions_of sheet_tree sheet_mask sheet_verdict sheet_of wrapped alphabet_refusal is_tree tree_refusal transition_fits automaton_refusal rule_refusal rules_refusal joins sheet_refusal table_rule table_rules form_tree rule_fits valid_form same_alphabet form_refusal rules_bytes form_bytes size_answer making_refusal sheet_marking_refusal opening_refusal reading_refusal evaluation_refusal relations_of form_mask rules_counts size_refusal unfolding_refusal label_refusal label_at walk_refusal walk_mask walk_masks wrap_refusal hex times outcome W K7 K8 desk papers sheet_refusals empty_places form field_refusals alphabets composing rooms calls
table_holds = (refl, refl, refl, refl, refl, refl, refl, refl, refl)
