-- What R-7 promises (document 02).
use Rattle.std.specs.Prelude.{◌↔◌, ◌≡◌, Bool, true, List, [], ◌∷◌, ℕ, ◌+◌, ◌*◌, ◌/◌, ◌%◌, ◌≤◌, ◌<◌, length, get_or}
use Rattle.terms.specs.Grammar.{parameter, name, Rule, rule_at, rule_rank}
use Rattle.terms.specs.Automaton.{Transition, has}
use Rattle.terms.specs.Sheet.{alphabet_of, rules_of, automaton_of, state_count, transitions_of}
use Rattle.terms.specs.Check.{highest_rank}
use Rattle.terms.specs.Demand.{MaskOfRuns}
use Rattle.cleaning_terms.specs.Presence.{Occurs}
use Rattle.blackboard_terms.specs.Blackboard.{BitSet, table_length}

-- bit k of bytes, from the low bit of the first byte (02 R-7)
abbrev pub bit_of : List ℕ → ℕ → Bool
bit_of bytes k = has (get_or bytes (k / 8) 0) (k % 8)

-- the number of the bit for the states p1 to p4 at the parameters and q at the root, from the low bit of the rule's first byte (02 R-7)
abbrev pub bit_number : ℕ → ℕ → ℕ → ℕ → ℕ → ℕ
bit_number p1 p2 p3 p4 q = q + 8 * p1 + 64 * p2 + 512 * p3 + 4096 * p4

-- p1 to p4 as the states of parameters 0 to 3 (02 R-7)
abbrev pub four : ℕ → ℕ → ℕ → ℕ → ℕ → ℕ
four p1 p2 p3 p4 j = get_or (p1 ∷ p2 ∷ p3 ∷ p4 ∷ []) j 0

-- the bit of rule i of a sheet (02 R-7)
abbrev pub SheetBit : List ℕ → ℕ → (ℕ → ℕ) → ℕ → Type 0
SheetBit s i ps q = BitSet (alphabet_of s) (rules_of s) (transitions_of (alphabet_of s) (automaton_of s)) (state_count (automaton_of s)) i ps q

-- the bytes that are lent have a bit of a rule set exactly where a run exists that enters at each present parameter in its state and ends in q, and the mask is
-- that of runs on the sheet's tree (02 R-7)
pub record BlackboardRuns (s bytes : List ℕ) (mask : ℕ) : Type 0 where
  pub bits : (i : ℕ) → i < length (rules_of s) → (p1 p2 p3 p4 q : ℕ) → p1 < 8 → p2 < 8 → p3 < 8 → p4 < 8 → q < 8
      → (bit_of bytes (8 * table_length * i + bit_number p1 p2 p3 p4 q) ≡ true) ↔ SheetBit s i (four p1 p2 p3 p4) q
  pub answer : MaskOfRuns s mask

-- a parameter of rule i that is absent from what the rule derives is free over the Q states: where only its state differs, the bits are the same (02 R-7)
abbrev pub AbsentFree : List ℕ → List Rule → List Transition → ℕ → ℕ → Type 0
AbsentFree alphabet rules δ Q i =
    (j q : ℕ) (ps rs : ℕ → ℕ) → (Occurs alphabet rules i j → ⊥) → j < rule_rank rules i → rs j < Q → ((k : ℕ) → (k ≡ j → ⊥) → ps k ≡ rs k)
    → BitSet alphabet rules δ Q i ps q → BitSet alphabet rules δ Q i rs q

-- a rule that is a lone parameter is the identity on the Q states (02 R-7)
abbrev pub LoneIdentity : List ℕ → List Rule → List Transition → ℕ → ℕ → Type 0
LoneIdentity alphabet rules δ Q i =
    (m j q : ℕ) (ps : ℕ → ℕ) → (rule_at rules i).nodes ≡ m ∷ [] → name m ≡ parameter j
    → ((k : ℕ) → k < rule_rank rules i → ps k < Q) → ((k : ℕ) → k < highest_rank → rule_rank rules i ≤ k → ps k ≡ 0)
    → BitSet alphabet rules δ Q i ps q ↔ (ps j ≡ q)
