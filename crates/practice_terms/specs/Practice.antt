-- Practice sheets by number: their rules, their bytes, and what is refused (document 02, R-2).
use Rattle.std.specs.Prelude.{List, [], ◌∷◌, ◌++◌, map, ℕ, ◌+◌, ltb, length}
use Rattle.terms.specs.Refusal.{◌when◌, first, outside}
use Rattle.terms.specs.Grammar.{Rule}
use Rattle.terms.specs.Sheet.{written_rules, sheet_of}
use Rattle.terms.specs.Check.{automaton_refusal}
use Rattle.practice_terms.specs.Draw.{Choice, calls, beside, choices}

-- the alphabet: the terminals 0, 1, 2 are a, h, f, of the ranks 0, 1, 2 (02 R-2)
abbrev pub practice_alphabet : List ℕ
practice_alphabet = 0 ∷ 1 ∷ 2 ∷ []

-- the most rules that are drawn (02 R-2)
abbrev pub most_drawn : ℕ
most_drawn = 20

-- the nodes of a rule that is drawn, in preorder (02 R-2)
abbrev pub choice_nodes : Choice → List ℕ
choice_nodes (calls j k) = (0x40 + j) ∷ (0x40 + k) ∷ 0x80 ∷ []
choice_nodes (beside j) = 2 ∷ (0x40 + j) ∷ 0x80 ∷ 0 ∷ []

-- a rule that is drawn (02 R-2)
abbrev pub drawn_rule : Choice → Rule
drawn_rule c = record { rank = 1; nodes = choice_nodes c }

-- rule 0, h(y1) (02 R-2)
abbrev pub first_rule : Rule
first_rule = record { rank = 1; nodes = 1 ∷ 0x80 ∷ [] }

-- the last rule, rule m called on a (02 R-2)
abbrev pub last_rule : ℕ → Rule
last_rule m = record { rank = 0; nodes = (0x40 + m) ∷ 0 ∷ [] }

-- the grammar of the choices for rules 1 to m (02 R-2)
unfoldable pub grammar_of : List Choice → List Rule
grammar_of cs = first_rule ∷ (map drawn_rule cs ++ (last_rule (length cs) ∷ []))

-- the rules of a practice sheet (02 R-2)
abbrev pub practice_rules : ℕ → ℕ → List Rule
practice_rules x m = grammar_of (choices x m)

-- the practice sheet of a first x and m, written as wrap writes one (02 R-2)
unfoldable pub practice_sheet : ℕ → ℕ → List ℕ → List ℕ
practice_sheet x m automaton = sheet_of practice_alphabet (written_rules (practice_rules x m)) automaton

-- what is refused before anything is drawn: 27, 14 to 16 (02 R-2)
abbrev pub given_refusal : ℕ → List ℕ → ℕ
given_refusal m automaton = first (27 when (outside 1 most_drawn m) ∷ automaton_refusal practice_alphabet automaton ∷ [])

-- a practice sheet: 27, 14 to 16, 24, with so many bytes lent (02 R-2)
unfoldable pub practice_refusal : ℕ → ℕ → List ℕ → ℕ → ℕ
practice_refusal x m automaton room = first (given_refusal m automaton ∷ 24 when (ltb room (length (practice_sheet x m automaton))) ∷ [])
