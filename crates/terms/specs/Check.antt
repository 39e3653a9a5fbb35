-- What is refused of an alphabet, an automaton, a preorder tree and a sheet (document 01, "Refusals with a sheet for each", 1 to 16 but the retired 12, 22 and 23).
use Rattle.std.specs.Prelude.{Bool, false, cond, not, ◌&&◌, ◌||◌, List, [], ◌∷◌, ℕ, ◌+◌, ◌*◌, ◌-◌, ◌^◌, ◌%◌, leb, ltb, eqb, length}
use Rattle.terms.specs.Test.{all, every, tabulate}
use Rattle.terms.specs.Refusal.{◌when◌, first, outside}
use Rattle.terms.specs.Tree.{Wholes, exactly, lacking, wholes}
use Rattle.terms.specs.Grammar.{Rule, rule_at, rule_rank, terminal_rank, rank_in, all_allowed, is_parameter, sum_over, node_count}
use Rattle.terms.specs.Sheet.{contents_length, body_offset, body_length, body, alphabet_of, rules_body, automaton_of, state_count, finals, transition_count, transition_byte}

-- The limits.

-- the most terminals of an alphabet (01 Sheet)
abbrev pub most_terminals : ℕ
most_terminals = 32

-- the most rules of a sheet (01 Sheet)
abbrev pub most_rules : ℕ
most_rules = 64

-- the most right-side nodes of a sheet (01 Sheet)
abbrev pub most_nodes : ℕ
most_nodes = 128

-- the highest rank of a terminal or a rule (01 Sheet)
abbrev pub highest_rank : ℕ
highest_rank = 4

-- the most states of an automaton (01 Sheet)
abbrev pub most_states : ℕ
most_states = 8

-- the most transitions of an automaton (01 Sheet)
abbrev pub most_transitions : ℕ
most_transitions = 255

-- the length of the longest sheet, 1,832: contents, terminals, two bytes for each rule, nodes, and the longest automaton (01 Sheet)
abbrev pub longest_sheet : ℕ
longest_sheet = contents_length + most_terminals + 2 * most_rules + most_nodes + (2 + 6 * most_transitions)

-- The alphabet: 3 and 4.

-- the refusal of an alphabet: 3 and 4 (01 Refusals)
unfoldable pub alphabet_refusal : List ℕ → ℕ
alphabet_refusal alphabet = first (
    3 when (outside 1 most_terminals (length alphabet))
    ∷ 4 when (not (all (λ rank. leb rank highest_rank) alphabet))
    ∷ [])

-- A preorder tree: 22 and 23.

-- the symbols make one whole tree (01 Refusals)
abbrev pub is_one : Wholes → Bool
is_one (exactly n) = eqb n 1
is_one lacking = false

-- the bytes are terminals of the alphabet and one whole tree (01 Refusals)
unfoldable pub is_tree : List ℕ → List ℕ → Bool
is_tree alphabet bytes = all (λ f. ltb f (length alphabet)) bytes && is_one (wholes (terminal_rank alphabet) bytes)

-- the refusal of a preorder tree, where a call takes so many nodes at the most: 22 and 23 (01 Refusals)
unfoldable pub tree_refusal : ℕ → List ℕ → List ℕ → ℕ
tree_refusal most alphabet bytes = first (
    22 when (ltb most (length bytes))
    ∷ 23 when (not (is_tree alphabet bytes))
    ∷ [])

-- The automaton: 14 to 16.

-- child state c, counted j from 0, of a transition whose terminal has the rank n: a state where it is used, else FF (01 Refusals)
abbrev pub child_fits : ℕ → ℕ → ℕ → ℕ → Bool
child_fits states n j c = cond (ltb j n) (ltb c states) (eqb c 0xFF)

-- transition i names a terminal, states that there are, and FF for the unused child states (01 Refusals)
unfoldable pub transition_fits : List ℕ → List ℕ → ℕ → Bool
transition_fits alphabet a i =
    ltb (transition_byte a i 0) (length alphabet)
    && (ltb (transition_byte a i 1) (state_count a)
    && every 4 (λ j. child_fits (state_count a) (terminal_rank alphabet (transition_byte a i 0)) j (transition_byte a i (2 + j))))

-- the automaton has under 2 bytes, a cut transition or too many transitions (01 Refusals)
abbrev pub wrong_length : List ℕ → Bool
wrong_length a = ltb (length a) 2 || (not (eqb ((length a - 2) % 6) 0) || ltb most_transitions (transition_count a))

-- the number of states or the set of final states is out of range (01 Refusals)
abbrev pub wrong_states : ℕ → ℕ → Bool
wrong_states states set = outside 1 most_states states || leb (2 ^ states) set

-- the refusal of an automaton over an alphabet: 14 to 16 (01 Refusals)
unfoldable pub automaton_refusal : List ℕ → List ℕ → ℕ
automaton_refusal alphabet a = first (
    14 when (wrong_length a)
    ∷ 15 when (wrong_states (state_count a) (finals a))
    ∷ 16 when (not (every (transition_count a) (transition_fits alphabet a)))
    ∷ [])

-- The rules: 5 to 13.

-- rule i: 8 to 11, where 11 is given only for a second occurrence of a parameter (01 Refusals, 02 R-3)
unfoldable pub rule_refusal : List ℕ → List Rule → ℕ → ℕ
rule_refusal alphabet rules i =
    let rank = rule_rank rules i in
    let nodes = (rule_at rules i).nodes in
    first (
    8 when (ltb highest_rank rank)
    ∷ 9 when (not (all_allowed alphabet i rank nodes))
    ∷ 10 when (not (is_one (wholes (rank_in alphabet rules) nodes)))
    ∷ 11 when (not (every rank (λ j. leb (sum_over (is_parameter j) nodes) 1)))
    ∷ [])

-- the refusal of a rules body: 5 to 13 (01 Refusals)
unfoldable pub rules_refusal : List ℕ → List ℕ → ℕ
rules_refusal alphabet bs =
    let b = rules_body bs in
    let rules = b.rules in
    first (
    5 when (not b.ends || eqb (length rules) 0)
    ∷ 6 when (ltb most_rules (length rules))
    ∷ 7 when (ltb most_nodes (node_count rules))
    ∷ first (tabulate (length rules) (rule_refusal alphabet rules))
    ∷ 13 when (not (eqb (rule_rank rules (length rules - 1)) 0))
    ∷ [])

-- The sheet: 1 to 16.

-- the bodies follow the table of contents in order, without gaps, to the file's end (01 Refusals)
unfoldable pub joins : List ℕ → Bool
joins s =
    eqb (body_offset s 0) contents_length
    && (eqb (body_offset s 1) (body_offset s 0 + body_length s 0)
    && (eqb (body_offset s 2) (body_offset s 1 + body_length s 1)
    && eqb (length s) (body_offset s 2 + body_length s 2)))

-- the refusal of a sheet, 0 where it passes 1 to 16 (01 Refusals)
unfoldable pub sheet_refusal : List ℕ → ℕ
sheet_refusal s = first (
    1 when (outside contents_length longest_sheet (length s))
    ∷ 2 when (not (joins s))
    ∷ alphabet_refusal (alphabet_of s)
    ∷ rules_refusal (alphabet_of s) (body s 1)
    ∷ automaton_refusal (alphabet_of s) (automaton_of s)
    ∷ [])
