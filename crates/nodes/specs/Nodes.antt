-- What the code's values about nodes represent.
use Rattle.std.specs.Prelude.{◌≡◌, List, [], map, ℕ, ◌+◌, ◌<◌, get_or, Option, Some, None}
use Rattle.terms.specs.Grammar.{Rule, terminal, nonterminal, parameter, nothing, is_parameter}
use Rattle.terms.specs.Grammar as grammar
use Rattle.terms.specs.Tree.{exactly, lacking}
use Rattle.terms.specs.Tree as tree
use Rattle.terms.specs.Check.{most_rules, highest_rank}
use Rattle.nodes.specs.declared.name.Name.{Name}
use Rattle.nodes.specs.declared.name.Name.TheVariants.{Terminal, Nonterminal, Parameter, Nothing}

-- what the code's name of a node names (01 Sheet)
abbrev pub naming : Name → grammar.Name
naming (Terminal f) = terminal f.0
naming (Nonterminal r) = nonterminal r.0
naming (Parameter j) = parameter j
naming Nothing = nothing

-- what the code's count of whole trees says (01 Refusals, 10)
abbrev pub counting : Option ℕ → tree.Wholes
counting (Some n) = exactly n
counting None = lacking

-- how many trees are counted (01 Refusals, 10)
abbrev pub trees_in : Option ℕ → ℕ
trees_in (Some n) = n
trees_in None = 0

-- what is named has a rank, where n terminals and the most rules have one (01 Sheet)
abbrev pub HasRank : ℕ → grammar.Name → Type 0
HasRank n (terminal f) = f < n
HasRank n (nonterminal r) = r < most_rules
HasRank n (parameter j) = Unit {0}
HasRank n nothing = Unit {0}

-- the counts of a rule's parameters have room for a node that names x (01 Refusals, 11)
abbrev pub CanCount : grammar.Name → List ℕ → Type 0
CanCount x counts = ((j : ℕ) → x ≡ parameter j → j < highest_rank) × ((j : ℕ) → get_or counts j 0 < 255)

-- the counts of a rule's parameters, and the counts with one more node, which names x (01 Refusals, 11)
abbrev pub CountedWith : grammar.Name → List ℕ → List ℕ → Type 0
CountedWith x counts more = (j : ℕ) → get_or more j 0 ≡ is_parameter j x + get_or counts j 0

-- rules of which only the ranks are known (01 Sheet)
abbrev pub ruled_by : List ℕ → List Rule
ruled_by ranks = map (λ rank. record { rank = rank; nodes = [] }) ranks
