-- Which numbers marking refuses by before it looks at a tally: 1 to 17 and 19.
use mathlib.Core.Logic.{◌⊎◌, inl, inr}
use mathlib.Core.Path.{◌≡◌, refl}
use mathlib.Core.Bool.{Bool, true, false, not, ◌||◌}
use mathlib.Core.List.{List, [], ◌∷◌}
use Prim.Native.Nat.{ℕ, zero, suc, ◌-◌, ◌≤◌}
use native.Mathlib.Omega.{arith}
use lib.Dec.{leb, ltb, eqb}
use lib.ListN.{length}
use Rattle.terms.specs.Test.{all, every, tabulate}
use Rattle.terms.specs.Refusal.{◌when◌, or_else, first, outside}
use Rattle.terms.specs.Tree.{wholes}
use Rattle.terms.specs.Grammar.{Rule, rule_at, rule_rank, rank_in, all_allowed, is_parameter, sum_over, node_count}
use Rattle.terms.specs.Sheet.{contents_length, body, alphabet_of, rules_body, automaton_of, state_count, finals, transition_count}
use Rattle.terms.specs.Check.{most_terminals, most_rules, most_nodes, highest_rank, longest_sheet, alphabet_refusal, is_one, rule_refusal, rules_refusal, transition_fits, wrong_length, wrong_states, automaton_refusal, joins, sheet_refusal}
use Rattle.terms.specs.Answer.{refused, answered, answer}
use Rattle.terms.specs.Calls.{rules_asked, form_asked, making_refusal, sheet_marking_refusal, MarkAnswer, sheet_mark}
use Rattle.tallies.specs.Lists.{Call}

-- rows of numbers up to k
none : {k : ℕ} → 0 ≤ k
none = omega arith

row : (n : ℕ) {k : ℕ} (b : Bool) → n ≤ k → n when b ≤ k
row n true h = h
row n false h = none

then : {n m k : ℕ} → n ≤ k → m ≤ k → or_else n m ≤ k
then {n = zero} h l = l
then {n = suc n} h l = h

rows : {k : ℕ} (n : ℕ) (f : ℕ → ℕ) → ((i : ℕ) → f i ≤ k) → first (tabulate n f) ≤ k
unfolding tabulate
rows zero f h = none
rows (suc n) f h = then (h 0) (rows n (λ i. f (suc i)) (λ i. h (suc i)))

alphabet-number : (alphabet : List ℕ) → alphabet_refusal alphabet ≤ 16
unfolding alphabet_refusal
alphabet-number alphabet =
    then (row 3 (outside 1 most_terminals (length alphabet)) (omega arith)) (then (row 4 (not (all (λ rank. leb rank highest_rank) alphabet)) (omega arith)) none)

rule-number : (alphabet : List ℕ) (rules : List Rule) (i : ℕ) → rule_refusal alphabet rules i ≤ 16
unfolding rule_refusal
rule-number alphabet rules i =
    let rank = rule_rank rules i in
    let nodes = (rule_at rules i).nodes in
    then (row 8 (ltb highest_rank rank) (omega arith))
    (then (row 9 (not (all_allowed alphabet i rank nodes)) (omega arith))
    (then (row 10 (not (is_one (wholes (rank_in alphabet rules) nodes))) (omega arith))
    (then (row 11 (not (every rank (λ j. leb (sum_over (is_parameter j) nodes) 1))) (omega arith)) none)))

rules-number : (alphabet bs : List ℕ) → rules_refusal alphabet bs ≤ 16
unfolding rules_refusal
rules-number alphabet bs =
    let b = rules_body bs in
    let rules = b.rules in
    then (row 5 (not b.ends || eqb (length rules) 0) (omega arith))
    (then (row 6 (ltb most_rules (length rules)) (omega arith))
    (then (row 7 (ltb most_nodes (node_count rules)) (omega arith))
    (then (rows (length rules) (rule_refusal alphabet rules) (rule-number alphabet rules))
    (then (row 13 (not (eqb (rule_rank rules (length rules - 1)) 0)) (omega arith)) none))))

automaton_number : (alphabet a : List ℕ) → automaton_refusal alphabet a ≤ 16
unfolding automaton_refusal
automaton_number alphabet a =
    then (row 14 (wrong_length a) (omega arith))
    (then (row 15 (wrong_states (state_count a) (finals a)) (omega arith))
    (then (row 16 (not (every (transition_count a) (transition_fits alphabet a))) (omega arith)) none))

sheet-number : (s : List ℕ) → sheet_refusal s ≤ 16
unfolding sheet_refusal
sheet-number s =
    then (row 1 (outside contents_length longest_sheet (length s)) (omega arith))
    (then (row 2 (not (joins s)) (omega arith))
    (then (alphabet-number (alphabet_of s))
    (then (rules-number (alphabet_of s) (body s 1)) (then (automaton_number (alphabet_of s) (automaton_of s)) none))))

-- a verdict, or a refusal by 1 to 17 or 19
abbrev pub OfSheet : MarkAnswer → Type 0
OfSheet (refused n) = (1 ≤ n) × ((n ≤ 17) ⊎ (n ≡ 19))
OfSheet (answered mark) = Unit {0}

-- what marking answers to a call without a tally
abbrev pub alone : Call → MarkAnswer
alone call = answer (sheet_marking_refusal call.sheet call.room call.numbers) (sheet_mark call.sheet)

pub of_sheet : (call : Call) → OfSheet (alone call)
unfolding sheet_marking_refusal making_refusal
of_sheet call =
    go (sheet_refusal call.sheet) (ltb call.room (form_asked call.sheet)) (ltb call.numbers (rules_asked call.sheet)) (sheet-number call.sheet)
  where
    go : (n : ℕ) (b d : Bool) → n ≤ 16 → OfSheet (answer (first (first (n ∷ 17 when b ∷ []) ∷ 19 when d ∷ [])) (sheet_mark call.sheet))
    go (suc n) b d h = (omega arith, inl (omega arith))
    go zero true d h = (omega arith, inl (omega arith))
    go zero false true h = (omega arith, inr refl)
    go zero false false h = tt
