-- What each call refuses, in the order of documents 01 ("Order: the table's") and 02, and what it answers. A lent slice stands by its length.
use Rattle.std.specs.Prelude.{Bool, List, [], ◌∷◌, ◌++◌, ℕ, zero, suc, ◌+◌, ◌*◌, ◌-◌, ◌^◌, leb, ltb, eqb, length, get_or, drop}
use Rattle.terms.specs.Test.{any, tabulate, joined}
use Rattle.terms.specs.Refusal.{◌when◌, or_else, first}
use Rattle.terms.specs.Answer.{Answer}
use Rattle.terms.specs.Tree.{preorder, tree_of}
use Rattle.terms.specs.Grammar.{terminal_rank}
use Rattle.terms.specs.Automaton.{mask}
use Rattle.terms.specs.Relation.{relation_at}
use Rattle.terms.specs.Form.{Rule, Value, value_at, form_bound}
use Rattle.terms.specs.Sheet.{Verdict, alphabet_of, rules_of, transitions_of, sheet_mask, sheet_verdict, wrapped}
use Rattle.terms.specs.Check.{alphabet_refusal, automaton_refusal, tree_refusal, sheet_refusal, most_nodes}
use Rattle.terms.specs.FormBytes.{rule_count, form_length, form_rules, form_tree, form_refusal}
use Rattle.terms.specs.Count.{own_nodes, nodes_before, size_of, capped}

-- Lent slices.

-- a lent slice after a call: as it was where the call was refused, else what is written, its later elements kept (01 Refusals)
abbrev pub lent_after : ℕ → List ℕ → List ℕ → List ℕ
lent_after zero written entry = written ++ drop (length written) entry
lent_after (suc n) written entry = entry

-- Form making and marking.

-- how many rules a form of the sheet may take, which is how many numbers marking asks for: the sum over the sheet as written (02 R-6)
abbrev pub rules_asked : List ℕ → ℕ
rules_asked s = form_bound (rules_of s)

-- no sheet that passes asks for more: 19 for every 4 of the 128 nodes that a sheet may have (02 R-6)
abbrev pub most_asked : ℕ
most_asked = 608

-- how many bytes form making and marking ask for: those of a form of so many rules over the sheet's alphabet, 5 + T + 12 · sum (02 R-6)
abbrev pub form_asked : List ℕ → ℕ
form_asked s = form_length (length (alphabet_of s)) (rules_asked s)

-- what form making and marking ask for: bytes for the form, and numbers for its relations (02 R-6)
abbrev pub room_asked : List ℕ → ℕ × ℕ
room_asked s = (form_asked s, rules_asked s)

-- form making: 1 to 16, 17 (01 Refusals)
unfoldable pub making_refusal : List ℕ → ℕ → ℕ
making_refusal s room = first (sheet_refusal s ∷ 17 when (ltb room (form_asked s)) ∷ [])

-- marking a sheet without a tally: 1 to 16, 17, 19 (01 Refusals)
unfoldable pub sheet_marking_refusal : List ℕ → ℕ → ℕ → ℕ
sheet_marking_refusal s room numbers = first (making_refusal s room ∷ 19 when (ltb numbers (rules_asked s)) ∷ [])

-- what marking answers: a refusal, or a verdict with its mask (01 Size, label, wrap, tally)
abbrev pub MarkAnswer : Type 0
MarkAnswer = Answer (Verdict × ℕ)

-- what is said of a sheet: its verdict and its mask (01 Derived tree and run)
abbrev pub sheet_mark : List ℕ → Verdict × ℕ
sheet_mark s = (sheet_verdict s, sheet_mask s)

-- Marking for a candidate. The counts of a tally are 48 numbers, three for each of sixteen candidates: those of candidate c at 3 · c, 3 · c + 1 and
-- 3 · c + 2, which are accepted, declined and turned away.

-- candidate c's count at place w of its three (02 R-1)
abbrev pub tally_count : List ℕ → ℕ → ℕ → ℕ
tally_count counts c w = get_or counts (3 * c + w) 0

-- candidate c's line: its three counts (02 R-1)
abbrev pub tally_line : List ℕ → ℕ → List ℕ
tally_line counts c = tally_count counts c 0 ∷ tally_count counts c 1 ∷ tally_count counts c 2 ∷ []

-- a number that no candidate has (02 R-1)
abbrev pub unknown : ℕ → Bool
unknown c = ltb 15 c

-- the largest count: 4,294,967,295 (01 Refusals, 25)
abbrev pub largest_count : ℕ
largest_count = 2 ^ 32 - 1

-- a count that cannot move on (01 Refusals, 25)
abbrev pub full : ℕ → Bool
full n = eqb n largest_count

-- what the tally refuses to candidate c, in a step and in a marking: 26, 25 (02 R-1)
abbrev pub tally_refusal : List ℕ → ℕ → ℕ
tally_refusal counts c = first (26 when (unknown c) ∷ 25 when (any full (tally_line counts c)) ∷ [])

-- marking for candidate c: 26, 25, then what is refused without a tally (02 R-1)
abbrev pub marking_refusal : List ℕ → ℕ → List ℕ → ℕ → ℕ → ℕ
marking_refusal counts c s room numbers = or_else (tally_refusal counts c) (sheet_marking_refusal s room numbers)

-- Calls on a form: 3, 4, (14 to 16 for a mask), 18, 28, 19, then 20 or 21. Where none of them refuses the form, the alphabet given is the one in its head.

-- opening a form (01 Refusals)
unfoldable pub opening_refusal : List ℕ → List ℕ → ℕ
opening_refusal alphabet form = first (alphabet_refusal alphabet ∷ form_refusal alphabet form ∷ [])

-- reading the rule of a number (01 Refusals)
unfoldable pub reading_refusal : List ℕ → List ℕ → ℕ → ℕ
reading_refusal alphabet form i = first (opening_refusal alphabet form ∷ 21 when (leb (rule_count form) i) ∷ [])

-- evaluation, which lends R numbers (01 Refusals)
unfoldable pub evaluation_refusal : List ℕ → List ℕ → List ℕ → ℕ → ℕ
evaluation_refusal alphabet automaton form numbers = first (
    alphabet_refusal alphabet
    ∷ automaton_refusal alphabet automaton
    ∷ form_refusal alphabet form
    ∷ 19 when (ltb numbers (rule_count form))
    ∷ [])

-- the relations that evaluation ends with: entry i is that of what rule i derives (01 Mask from the form)
unfoldable pub relations_of : List ℕ → List ℕ → List ℕ → List ℕ
relations_of alphabet automaton form = tabulate (rule_count form) (relation_at (transitions_of alphabet automaton) (form_rules alphabet form))

-- the mask that evaluation answers: that of the form's tree (01 Mask from the form)
unfoldable pub form_mask : List ℕ → List ℕ → List ℕ → ℕ
form_mask alphabet automaton form = mask (transitions_of alphabet automaton) (form_tree alphabet form)

-- how many counts a rule has (01 Unfolding)
abbrev pub counts_per_rule : ℕ
counts_per_rule = 2

-- the counts of a rule, from what it derives: its node count, and that of the nodes before its hole (01 Unfolding)
abbrev pub value_counts : Value → List ℕ
value_counts value = capped (own_nodes value) ∷ capped (nodes_before value) ∷ []

-- the counts of rules, one rule behind the other (01 Unfolding)
unfoldable pub rules_counts : List Rule → List ℕ
rules_counts rules = joined (length rules) (λ i. value_counts (value_at rules i))

-- the counts that size, label and unfolding end with (01 Unfolding)
abbrev pub counts_of : List ℕ → List ℕ → List ℕ
counts_of alphabet form = rules_counts (form_rules alphabet form)

-- size, which lends a number for each count of R rules (01 Refusals)
unfoldable pub size_refusal : List ℕ → List ℕ → ℕ → ℕ
size_refusal alphabet form numbers = first (opening_refusal alphabet form ∷ 19 when (ltb numbers (counts_per_rule * rule_count form)) ∷ [])

-- unfolding into a slice (01 Refusals)
unfoldable pub unfolding_refusal : List ℕ → List ℕ → ℕ → ℕ → ℕ
unfolding_refusal alphabet form numbers room = first (size_refusal alphabet form numbers ∷ 20 when (ltb room (size_of (form_tree alphabet form))) ∷ [])

-- the label at a preorder position (01 Refusals)
unfoldable pub label_refusal : List ℕ → List ℕ → ℕ → ℕ → ℕ
label_refusal alphabet form position numbers = first (
    size_refusal alphabet form numbers
    ∷ 21 when (leb (capped (size_of (form_tree alphabet form))) position)
    ∷ [])

-- the terminal at a preorder position, the root being 0 (01 Size, label)
unfoldable pub label_at : List ℕ → List ℕ → ℕ → ℕ
label_at alphabet form position = get_or (preorder (form_tree alphabet form)) position 0

-- The plain walk and wrap.

-- the most nodes of a tree that is walked (01 Plain walk)
abbrev pub most_walked : ℕ
most_walked = 4096

-- the walk: 3, 4, 14 to 16, 22, 23, 19 (01 Refusals)
unfoldable pub walk_refusal : List ℕ → List ℕ → List ℕ → ℕ → ℕ
walk_refusal alphabet automaton tree room = first (
    alphabet_refusal alphabet
    ∷ automaton_refusal alphabet automaton
    ∷ tree_refusal most_walked alphabet tree
    ∷ 19 when (ltb room (length tree))
    ∷ [])

-- the mask of the tree that symbols in preorder begin with (01 Plain walk)
unfoldable pub walk_mask : List ℕ → List ℕ → List ℕ → ℕ
walk_mask alphabet automaton symbols = mask (transitions_of alphabet automaton) (tree_of (terminal_rank alphabet) symbols)

-- the masks that the walk ends with: entry i is that of the subtree that starts at position i (01 Plain walk)
unfoldable pub walk_masks : List ℕ → List ℕ → List ℕ → List ℕ
walk_masks alphabet automaton tree = tabulate (length tree) (λ i. walk_mask alphabet automaton (drop i tree))

-- wrap: 3, 4, 22, 23, 14 to 16, 24 (01 Refusals)
unfoldable pub wrap_refusal : List ℕ → List ℕ → List ℕ → ℕ → ℕ
wrap_refusal alphabet tree automaton room = first (
    alphabet_refusal alphabet
    ∷ tree_refusal most_nodes alphabet tree
    ∷ automaton_refusal alphabet automaton
    ∷ 24 when (ltb room (length (wrapped alphabet tree automaton)))
    ∷ [])
