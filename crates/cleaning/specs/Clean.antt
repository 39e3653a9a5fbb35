-- The rules of a grammar, cleaned one after another.
use Rattle.std.specs.Prelude.{◌≡◌, List, ℕ, suc, ◌+◌, ◌*◌, ◌≤◌, ◌<◌, length, get_or, take}
use Rattle.terms.specs.Grammar.{Rule, rule_at, rule_rank, node_count, Proper}
use Rattle.terms.specs.Sheet.{rules_body, written_rule, written_rules}
use Rattle.terms.specs.Check.{most_rules, most_nodes}
use Rattle.cleaning_terms.specs.Cleaning.{rule_sifted, renumbered, cleaned}
use Rattle.cleaning.specs.Sifting.{Noted}
use Rattle.cleaning.specs.declared.notes.Notes.{Notes}

-- the length of the longest rules body: two bytes for each rule, and the nodes (01 Sheet)
abbrev pub longest_body : ℕ
longest_body = 2 * most_rules + most_nodes

-- the rules of a body are a grammar over the alphabet (02 R-3)
pub record GrammarBody (alphabet body : List ℕ) : Type 0 where
  pub proper : Proper alphabet (rules_body body).rules
  pub few : node_count (rules_body body).rules ≤ most_nodes

-- rule i is one of a grammar, its rank and the lower rules are noted, and there is room for its nodes (02 R-3)
pub record RuleReady (alphabet : List ℕ) (notes : Notes) (i : ℕ) (nodes : List ℕ) (room : ℕ) : Type 0 where
  pub rules : List Rule
  pub proper : Proper alphabet rules
  pub inside : i < length rules
  pub rule_nodes : nodes ≡ (rule_at rules i).nodes
  pub few : length nodes ≤ most_nodes
  pub noted : Noted alphabet rules i notes.ranks notes.present notes.alone
  pub rank : get_or notes.ranks i 0 ≡ rule_rank rules i
  pub fits : length nodes ≤ room

-- the nodes of the cleaned rule are written, and the rule is noted beside the lower ones (02 R-3)
pub record NodesCleaned (alphabet : List ℕ) (notes : Notes) (i : ℕ) (nodes kept : List ℕ) (count : ℕ) (notes' : Notes) (kept' : List ℕ) : Type 0 where
  pub long : length kept' ≡ length kept
  pub short : count ≤ length nodes
  pub ranks : notes'.ranks ≡ notes.ranks
  pub written : {room : ℕ} (g : RuleReady alphabet notes i nodes room) → take count kept' ≡ (renumbered (rule_sifted alphabet g.rules i)).nodes
  pub noted : {room : ℕ} (g : RuleReady alphabet notes i nodes room) → Noted alphabet g.rules (suc i) notes'.ranks notes'.present notes'.alone

-- the cleaned rule is written, and noted beside the lower ones (02 R-3)
pub record RuleCleaned (alphabet : List ℕ) (notes : Notes) (i : ℕ) (nodes out : List ℕ) (end : ℕ) (notes' : Notes) (out' : List ℕ) : Type 0 where
  pub long : length out' ≡ length out
  pub short : end ≤ 2 + length nodes
  pub written : {room : ℕ} (g : RuleReady alphabet notes i nodes room) → take end out' ≡ written_rule (renumbered (rule_sifted alphabet g.rules i))
  pub noted : {room : ℕ} (g : RuleReady alphabet notes i nodes room) → Noted alphabet g.rules (suc i) notes'.ranks notes'.present notes'.alone

-- the bytes at the start of a slice, so many, are the body of the cleaned rules (02 R-3)
pub record Cleaned (alphabet body : List ℕ) (end : ℕ) (out : List ℕ) : Type 0 where
  pub within : end ≤ length out
  pub written : take end out ≡ written_rules (cleaned alphabet (rules_body body).rules)

-- the same, and all rules are noted: their ranks, the parameters that are present in them, and whether they are lone parameters (02 R-3, R-7)
pub record CleanedNoting (alphabet body : List ℕ) (end : ℕ) (notes : Notes) (out : List ℕ) : Type 0 where
  pub cleaned : Cleaned alphabet body end out
  pub noted : Noted alphabet (rules_body body).rules (length (rules_body body).rules) notes.ranks notes.present notes.alone
