-- A sheet (document 01, "Sheet"): what its bytes say, and how one is written.
use Rattle.std.specs.Prelude.{Bool, true, false, cond, ◌&&◌, List, [], ◌∷◌, ◌++◌, ℕ, zero, suc, ◌+◌, ◌*◌, ◌-◌, ◌/◌, leb, length, get_or, take, drop}
use Rattle.terms.specs.Test.{some, tabulate}
use Rattle.terms.specs.Bytes.{word, word_bytes}
use Rattle.terms.specs.Tree.{Tree}
use Rattle.terms.specs.Grammar.{Rule, terminal_rank, node_count, derived}
use Rattle.terms.specs.Automaton.{Transition, has, mask}

-- The table of contents.

-- how many bytes the table of contents has (01 Sheet)
abbrev pub contents_length : ℕ
contents_length = 12

-- the offset of body e: 0 is the alphabet, 1 the rules, 2 the automaton (01 Sheet)
abbrev pub body_offset : List ℕ → ℕ → ℕ
body_offset s e = word s (4 * e)

-- the length of body e (01 Sheet)
abbrev pub body_length : List ℕ → ℕ → ℕ
body_length s e = word s (4 * e + 2)

-- body e (01 Sheet)
unfoldable pub body : List ℕ → ℕ → List ℕ
body s e = take (body_length s e) (drop (body_offset s e) s)

-- The alphabet and the rules.

-- the alphabet: the rank of each terminal (01 Sheet)
abbrev pub alphabet_of : List ℕ → List ℕ
alphabet_of s = body s 0

-- the rules that stand whole in a rules body, and whether they end where it ends (01 Sheet)
pub record RulesBody : Type 0 where
  pub rules : List Rule
  pub ends : Bool

-- a rule in front of what follows it, where its nodes are all there (01 Sheet)
abbrev pub with_rule : ℕ → List ℕ → Bool → RulesBody → RulesBody
with_rule rank nodes true b = record { rules = record { rank = rank; nodes = nodes } ∷ b.rules; ends = b.ends }
with_rule rank nodes false b = record { rules = []; ends = false }

-- rules one behind the other, each a rank, a node count and that many nodes; k steps are enough for k bytes (01 Sheet)
unfoldable pub read_rules : ℕ → List ℕ → RulesBody
read_rules zero bs = record { rules = []; ends = true }
read_rules (suc k) [] = record { rules = []; ends = true }
read_rules (suc k) (rank ∷ []) = record { rules = []; ends = false }
read_rules (suc k) (rank ∷ n ∷ bs) = with_rule rank (take n bs) (leb n (length bs)) (read_rules k (drop n bs))

-- what a rules body holds (01 Sheet)
unfoldable pub rules_body : List ℕ → RulesBody
rules_body bs = read_rules (length bs) bs

-- the grammar's rules (01 Sheet)
unfoldable pub rules_of : List ℕ → List Rule
rules_of s = (rules_body (body s 1)).rules

-- the number G of right-side nodes (01 Sheet)
unfoldable pub nodes_of : List ℕ → ℕ
nodes_of s = node_count (rules_of s)

-- The automaton.

-- the number Q of states (01 Sheet)
abbrev pub state_count : List ℕ → ℕ
state_count a = get_or a 0 0

-- the set of final states: bit q for state q (01 Sheet)
abbrev pub finals : List ℕ → ℕ
finals a = get_or a 1 0

-- the number of transitions, of 6 bytes each (01 Sheet)
unfoldable pub transition_count : List ℕ → ℕ
transition_count a = (length a - 2) / 6

-- byte k of transition i: terminal, target, four child states (01 Sheet)
abbrev pub transition_byte : List ℕ → ℕ → ℕ → ℕ
transition_byte a i k = get_or a (2 + 6 * i + k) 0

-- transition i, with as many child states as the rank of its terminal (01 Sheet)
unfoldable pub transition_at : List ℕ → List ℕ → ℕ → Transition
transition_at alphabet a i = record {
  terminal = transition_byte a i 0;
  target = transition_byte a i 1;
  children = tabulate (terminal_rank alphabet (transition_byte a i 0)) (λ j. transition_byte a i (2 + j));
}

-- the transitions of an automaton over an alphabet (01 Sheet)
unfoldable pub transitions_of : List ℕ → List ℕ → List Transition
transitions_of alphabet a = tabulate (transition_count a) (transition_at alphabet a)

-- the automaton's bytes (01 Sheet)
abbrev pub automaton_of : List ℕ → List ℕ
automaton_of s = body s 2

-- What a sheet means (document 01, "Derived tree and run").

-- the sheet's tree: what the start derives (01 Derived tree and run)
unfoldable pub sheet_tree : List ℕ → Tree
sheet_tree s = derived (alphabet_of s) (rules_of s)

-- the sheet's mask: the states that runs on its tree end in (01 Derived tree and run)
unfoldable pub sheet_mask : List ℕ → ℕ
sheet_mask s = mask (transitions_of (alphabet_of s) (automaton_of s)) (sheet_tree s)

-- the verdict on a sheet (01 Derived tree and run)
pub data Verdict : Type 0 where
  accepted : Verdict
  declined : Verdict

-- the sheet is accepted where its mask and its final states share a state (01 Derived tree and run)
unfoldable pub sheet_verdict : List ℕ → Verdict
sheet_verdict s = cond (some 8 (λ q. has (sheet_mask s) q && has (finals (automaton_of s)) q)) accepted declined

-- Writing a sheet.

-- the table of contents of three bodies with these lengths (01 Sheet)
abbrev pub contents_of : ℕ → ℕ → ℕ → List ℕ
contents_of alphabet rules automaton =
    let r = contents_length + alphabet in
    let a = r + rules in
    word_bytes contents_length ++ (word_bytes alphabet ++ (word_bytes r ++ (word_bytes rules ++ (word_bytes a ++ word_bytes automaton))))

-- a rule: its rank, its node count and its nodes (01 Sheet)
abbrev pub written_rule : Rule → List ℕ
written_rule r = r.rank ∷ length r.nodes ∷ r.nodes

-- a rules body: rules one behind the other (01 Sheet)
unfoldable pub written_rules : List Rule → List ℕ
written_rules [] = []
written_rules (r ∷ rs) = written_rule r ++ written_rules rs

-- a sheet of three bodies (01 Sheet)
unfoldable pub sheet_of : List ℕ → List ℕ → List ℕ → List ℕ
sheet_of alphabet rules automaton = contents_of (length alphabet) (length rules) (length automaton) ++ (alphabet ++ (rules ++ automaton))

-- a plain tree as a sheet of one rule (01 Size, label, wrap)
unfoldable pub wrapped : List ℕ → List ℕ → List ℕ → List ℕ
wrapped alphabet tree automaton = sheet_of alphabet (0 ∷ length tree ∷ tree) automaton
