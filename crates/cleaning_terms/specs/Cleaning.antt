-- Cleaning a grammar: dropped arguments and calls of lone parameters go, and no node is added (document 02, R-3). It is what source document 000, section 5,
-- does to make a linear grammar non-deleting and productive.
use Rattle.std.specs.Prelude.{Bool, true, false, cond, not, List, [], ◌∷◌, ◌++◌, map, ℕ, zero, suc, ◌+◌, ltb, length, take, replicate}
use Rattle.terms.specs.Test.{tabulate}
use Rattle.terms.specs.Grammar.{Name, terminal, nonterminal, parameter, nothing, name, Rule, rule_at, terminal_rank, rank_in, is_parameter, any_parameter, sum_over}

-- the nodes are a lone parameter (02 R-3)
abbrev pub lone : List ℕ → Bool
lone [] = false
lone (m ∷ []) = any_parameter (name m)
lone (m ∷ n ∷ ms) = false

-- Which nodes are kept. The rules below the one that is cleaned are sifted already.

-- parameter j stands among the nodes (02 R-3)
abbrev pub stands : List ℕ → ℕ → Bool
stands nodes j = ltb 0 (sum_over (is_parameter j) nodes)

-- for each parameter of a sifted rule: it stands among the nodes that are kept (02 R-3)
unfoldable pub present : Rule → List Bool
present r = tabulate r.rank (stands r.nodes)

-- for each child of a node that is kept: it is kept, as all children of a terminal are, and the arguments that a call does not drop (02 R-3)
abbrev pub keeps : List ℕ → List Rule → Name → List Bool
keeps alphabet sifted (terminal f) = replicate (terminal_rank alphabet f) true
keeps alphabet sifted (nonterminal r) = present (rule_at sifted r)
keeps alphabet sifted (parameter j) = []
keeps alphabet sifted nothing = []

-- a node stays, unless it calls a lone parameter: such a call is replaced by its one kept argument (02 R-3)
abbrev pub stays : List Rule → Name → Bool
stays sifted (terminal f) = true
stays sifted (nonterminal r) = not (lone (rule_at sifted r).nodes)
stays sifted (parameter j) = true
stays sifted nothing = true

-- the nodes that are kept, in one pass from the first to the last. For each tree that is still to come, in order, a flag says whether it is kept;
-- a node takes the first flag and puts those of its children in its place (02 R-3)
unfoldable pub sift : List ℕ → List Rule → List Bool → List ℕ → List ℕ
sift alphabet sifted flags [] = []
sift alphabet sifted [] (m ∷ ms) = []
sift alphabet sifted (true ∷ flags) (m ∷ ms) =
    let behind = sift alphabet sifted (keeps alphabet sifted (name m) ++ flags) ms in
    cond (stays sifted (name m)) (m ∷ behind) behind
sift alphabet sifted (false ∷ flags) (m ∷ ms) = sift alphabet sifted (replicate (rank_in alphabet sifted m) false ++ flags) ms

-- a rule with the nodes that it keeps, its parameters under their old numbers (02 R-3)
abbrev pub sifted_rule : List ℕ → List Rule → Rule → Rule
sifted_rule alphabet sifted r = record { rank = r.rank; nodes = sift alphabet sifted (true ∷ []) r.nodes }

-- the first k rules, sifted in their order: a rule calls lower ones only (02 R-3)
unfoldable pub sifted_rules : List ℕ → List Rule → ℕ → List Rule
sifted_rules alphabet rules zero = []
sifted_rules alphabet rules (suc k) = let sifted = sifted_rules alphabet rules k in sifted ++ (sifted_rule alphabet sifted (rule_at rules k) ∷ [])

-- rule i, sifted (02 R-3)
abbrev pub rule_sifted : List ℕ → List Rule → ℕ → Rule
rule_sifted alphabet rules i = sifted_rule alphabet (sifted_rules alphabet rules i) (rule_at rules i)

-- New numbers for the parameters that are left.

-- how many flags are true (02 R-3)
unfoldable pub trues : List Bool → ℕ
trues [] = 0
trues (true ∷ flags) = suc (trues flags)
trues (false ∷ flags) = trues flags

-- the byte of a node: a parameter's number is that of the present parameters before it (02 R-3)
abbrev pub numbered : List Bool → ℕ → Name → ℕ
numbered flags m (terminal f) = m
numbered flags m (nonterminal r) = m
numbered flags m (parameter j) = 0x80 + trues (take j flags)
numbered flags m nothing = m

-- a sifted rule with its present parameters only, in their old order (02 R-3)
unfoldable pub renumbered : Rule → Rule
renumbered r = record { rank = trues (present r); nodes = map (λ m. numbered (present r) m (name m)) r.nodes }

-- the rules of a grammar, cleaned: as many, under the same numbers. A rule that comes to a lone parameter stays, and no rule calls it (02 R-3, 000 §5)
unfoldable pub cleaned : List ℕ → List Rule → List Rule
cleaned alphabet rules = map renumbered (sifted_rules alphabet rules (length rules))
