-- The call that adds a transition: what it refuses, what the lent relations end with, and what it answers (document 02, R-8).
use Rattle.std.specs.Prelude.{Bool, cond, not, ◌||◌, List, [], ◌∷◌, ◌++◌, ℕ, zero, suc, ◌^◌, ◌%◌, leb, ltb, eqb, length, get_or}
use Rattle.terms.specs.Refusal.{◌when◌, first}
use Rattle.terms.specs.Automaton.{Transition}
use Rattle.terms.specs.Relation.{relation_of}
use Rattle.terms.specs.Form.{Rule, rule_at}
use Rattle.terms.specs.Sheet.{transition_count, transitions_of}
use Rattle.terms.specs.Check.{alphabet_refusal, transition_fits, automaton_refusal, most_transitions}
use Rattle.terms.specs.FormBytes.{rule_count, start_of, form_rules, form_refusal}
use Rattle.adding_terms.specs.Dependence.{depends_at}

-- The longer automaton.

-- the longer automaton: the new transition stands behind the old ones (02 R-8)
abbrev pub longer : List ℕ → List ℕ → List ℕ
longer automaton new = automaton ++ new

-- the terminal of the new transition (02 R-8)
abbrev pub new_terminal : List ℕ → ℕ
new_terminal new = get_or new 0 0

-- the automaton has as many transitions as it may, so that one more is past the limit (02 R-8)
abbrev pub no_room : List ℕ → Bool
no_room automaton = leb most_transitions (transition_count automaton)

-- the new transition is not 6 bytes, or breaks what 16 tests: in the longer automaton it is the last, and the states are the old ones (02 R-8)
abbrev pub wrong_transition : List ℕ → List ℕ → List ℕ → Bool
wrong_transition alphabet automaton new = not (eqb (length new) 6) || not (transition_fits alphabet (longer automaton new) (transition_count automaton))

-- adding a transition: 3, 4, 14 (also where the old automaton has no room), 15, 16, 29, 18, 28, 19 (02 R-8)
unfoldable pub adding_refusal : List ℕ → List ℕ → List ℕ → List ℕ → ℕ → ℕ
adding_refusal alphabet form automaton new numbers = first (
    alphabet_refusal alphabet
    ∷ 14 when (no_room automaton)
    ∷ automaton_refusal alphabet automaton
    ∷ 29 when (wrong_transition alphabet automaton new)
    ∷ form_refusal alphabet form
    ∷ 19 when (ltb numbers (rule_count form))
    ∷ [])

-- What the slice ends with, and the answer.

-- the entries of the first n rules after the call, where the slice held these numbers: the entry of a rule that depends on the terminal f is redone over the
-- transitions δ from the entries below it as now held, and every other is kept (02 R-8)
unfoldable pub redone : List Transition → ℕ → List Rule → List ℕ → ℕ → List ℕ
redone δ f rules held zero = []
redone δ f rules held (suc n) =
    let below = redone δ f rules held n in
    below ++ (cond (depends_at f rules n) (relation_of δ (rule_at rules n) (λ j. get_or below j 0)) (get_or held n 0) ∷ [])

-- the relations that the call ends with (02 R-8)
unfoldable pub added_relations : List ℕ → List ℕ → List ℕ → List ℕ → List ℕ → List ℕ
added_relations alphabet form automaton new held =
    redone (transitions_of alphabet (longer automaton new)) (new_terminal new) (form_rules alphabet form) held (rule_count form)

-- the answer: bits 0 to 7 of the start's entry as now held (02 R-8)
unfoldable pub added_mask : List ℕ → List ℕ → List ℕ → List ℕ → List ℕ → ℕ
added_mask alphabet form automaton new held = get_or (added_relations alphabet form automaton new held) (start_of form) 0 % 2 ^ 8
