-- The rows of added transitions come out as they must.
use mathlib.Core.Path.{refl}
use Rattle.terms.specs.Test.{any, all, some, every, tabulate}
use Rattle.terms.specs.Bytes.{word}
use Rattle.terms.specs.Tree.{join}
use Rattle.terms.specs.Context.{plug, compose}
use Rattle.terms.specs.Automaton.{bit, has, set_of, all_in, fires, step, mask, masks, through}
use Rattle.terms.specs.Table.{entry}
use Rattle.terms.specs.Form.{tree_in, context_in, trees_at, value_of, value_at}
use Rattle.terms.specs.Relation.{matrix, relation, related, compose_bits, apply_bits, entry_of, states_at, relation_of}
use Rattle.terms.specs.Sheet.{transition_count, transition_at, transitions_of}
use Rattle.terms.specs.Check.{alphabet_refusal, transition_fits, automaton_refusal}
use Rattle.terms.specs.FormBytes.{table_rule, table_rules, rule_fits, valid_form, same_alphabet, form_refusal}
use Rattle.terms.specs.Calls.{relations_of}
use Rattle.terms.specs.Examples.{hex, times}
use Rattle.terms.specs.CallExamples.{form}
use Rattle.terms.proofs.Examples.{CallsHold}
use Rattle.adding_terms.specs.Dependence.{depends_at}
use Rattle.adding_terms.specs.Adding.{adding_refusal, redone, added_relations, added_mask}
use Rattle.adding_terms.specs.Examples.{added_entries, adding_refusals}

pub entries_hold : CallsHold added_entries
unfolding any all some every tabulate word join plug compose bit has set_of all_in fires step mask masks through entry tree_in context_in trees_at value_of value_at matrix relation related compose_bits apply_bits entry_of states_at relation_of transition_count transition_at transitions_of alphabet_refusal transition_fits automaton_refusal table_rule table_rules rule_fits valid_form same_alphabet form_refusal relations_of hex times form depends_at adding_refusal redone added_relations added_mask added_entries
entries_hold = refl

pub refusals_hold : CallsHold adding_refusals
unfolding all every word transition_count alphabet_refusal transition_fits automaton_refusal rule_fits valid_form same_alphabet form_refusal hex times adding_refusal adding_refusals
refusals_hold = refl
