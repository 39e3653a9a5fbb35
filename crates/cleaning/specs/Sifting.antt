-- The nodes of a right side that are kept, from what is noted of the lower rules.
use Rattle.std.specs.Prelude.{◌≡◌, Bool, true, false, not, List, [], ◌∷◌, ℕ, ◌+◌, ◌*◌, ◌≤◌, ◌<◌, length, get_or, take, replicate}
use Rattle.terms.specs.Grammar.{Name, terminal, nonterminal, parameter, nothing, Rule, rule_at, rule_rank, Proper}
use Rattle.terms.specs.Check.{most_rules, most_nodes, highest_rank}
use Rattle.rule_parameters.specs.Numbers.{rule_flags}
use Rattle.cleaning.specs.declared.notes.Notes.{Notes}
use Rattle.cleaning_terms.specs.Cleaning.{lone, stands, sift, sifted_rules, rule_sifted}

-- the flag of child j of a node can be read (02 R-3)
abbrev pub CanKeep : Name → ℕ → Type 0
CanKeep (terminal f) j = Unit {0}
CanKeep (nonterminal r) j = (r < most_rules) × (j < highest_rank)
CanKeep (parameter i) j = Unit {0}
CanKeep nothing j = Unit {0}

-- child j of a node that is kept or not is kept (02 R-3)
abbrev pub child_kept : List Bool → Bool → Name → ℕ → Bool
child_kept present false x j = false
child_kept present true (terminal f) j = true
child_kept present true (nonterminal r) j = get_or present (highest_rank * r + j) false
child_kept present true (parameter i) j = true
child_kept present true nothing j = true

-- a node that is kept or not stays (02 R-3)
abbrev pub node_stays : List Bool → Bool → Name → Bool
node_stays alone false x = false
node_stays alone true (terminal f) = true
node_stays alone true (nonterminal r) = not (get_or alone r false)
node_stays alone true (parameter i) = true
node_stays alone true nothing = true

-- the flags from a place on are those of a node's children, and later flags are kept (02 R-3)
pub record ChildrenFlagged (low : ℕ) (present : List Bool) (kept : Bool) (x : Name) (rank : ℕ) (flags flags' : List Bool) : Type 0 where
  pub long : length flags' ≡ length flags
  pub children : (j : ℕ) → j < rank → get_or flags' (low + j) false ≡ child_kept present kept x j
  pub behind : (k : ℕ) → low + rank ≤ k → get_or flags' k false ≡ get_or flags k false

-- what is noted of the rules below a number: their ranks, the parameters that are present in them, and whether they are lone parameters (02 R-3)
pub record Noted (alphabet : List ℕ) (rules : List Rule) (number : ℕ) (ranks : List ℕ) (present alone : List Bool) : Type 0 where
  pub ranked : length ranks ≡ most_rules
  pub flagged : length present ≡ rule_flags
  pub told : length alone ≡ most_rules
  pub rank : (r : ℕ) → r < number → get_or ranks r 0 ≡ rule_rank rules r
  pub stand : (r j : ℕ) → r < number → j < rule_rank rules r → get_or present (highest_rank * r + j) false ≡ stands (rule_sifted alphabet rules r).nodes j
  pub lone : (r : ℕ) → r < number → get_or alone r false ≡ lone (rule_sifted alphabet rules r).nodes

-- nothing is noted (02 R-3)
abbrev pub none_noted : Notes
none_noted = record { ranks = replicate most_rules 0; present = replicate rule_flags false; alone = replicate most_rules false }

-- the nodes are those of a rule of a grammar, the lower rules are noted, and there is room for the nodes (02 R-3)
pub record Side (alphabet : List ℕ) (notes : Notes) (nodes : List ℕ) (room : ℕ) : Type 0 where
  pub rules : List Rule
  pub number : ℕ
  pub proper : Proper alphabet rules
  pub inside : number < length rules
  pub rule_nodes : nodes ≡ (rule_at rules number).nodes
  pub few : length nodes ≤ most_nodes
  pub noted : Noted alphabet rules number notes.ranks notes.present notes.alone
  pub fits : length nodes ≤ room

-- the nodes that are kept (02 R-3)
abbrev pub kept_nodes : {alphabet : List ℕ} {notes : Notes} {nodes : List ℕ} {room : ℕ} → Side alphabet notes nodes room → List ℕ
kept_nodes {alphabet = alphabet} {nodes = nodes} g = sift alphabet (sifted_rules alphabet g.rules g.number) (true ∷ []) nodes

-- the nodes that are kept are written (02 R-3)
pub record Sifted (alphabet : List ℕ) (notes : Notes) (nodes entry : List ℕ) (count : ℕ) (exit : List ℕ) : Type 0 where
  pub long : length exit ≡ length entry
  pub kept : (g : Side alphabet notes nodes (length entry)) → take count exit ≡ kept_nodes g
  pub counted : count ≤ length nodes
