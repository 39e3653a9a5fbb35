-- What R-8 promises (document 02).
use Rattle.std.specs.Prelude.{◌≡◌, true, List, ℕ, zero, suc, ◌^◌, ◌%◌, ◌<◌, length, get_or, take}
use Rattle.terms.specs.Tree.{Tree}
use Rattle.terms.specs.Context.{Context}
use Rattle.terms.specs.Automaton.{Transition, Run, has}
use Rattle.terms.specs.Form.{rule_at, holes}
use Rattle.terms.specs.Relation.{RunAt, relation_of}
use Rattle.terms.specs.Sheet.{transitions_of}
use Rattle.terms.specs.FormBytes.{rule_count, start_of, form_rules}
use Rattle.terms.specs.Calls.{lent_after, evaluation_refusal, relations_of, form_mask}
use Rattle.adding_terms.specs.Dependence.{Depends}
use Rattle.adding_terms.specs.Adding.{longer, new_terminal, added_relations}

-- what the slice ends with and what is answered, whatever numbers it held: an entry is redone exactly where its rule depends on the new transition's terminal, from
-- the entries as now held and over all eight states; every other number is kept (02 R-8)
pub record EntriesRedone (alphabet form automaton new held left : List ℕ) (mask : ℕ) : Type 0 where
  pub again : (i : ℕ) → Depends (form_rules alphabet form) (new_terminal new) i
      → get_or left i 0 ≡ relation_of (transitions_of alphabet (longer automaton new)) (rule_at (form_rules alphabet form) i) (λ j. get_or left j 0)
  pub kept : (i : ℕ) → (Depends (form_rules alphabet form) (new_terminal new) i → ⊥) → get_or left i 0 ≡ get_or held i 0
  pub long : length left ≡ length held
  pub answer : mask ≡ get_or left (start_of form) 0 % 2 ^ 8

-- the slice held the old automaton's relations (02 R-8)
abbrev pub HeldOld : List ℕ → List ℕ → List ℕ → List ℕ → Type 0
HeldOld alphabet form automaton held = take (rule_count form) held ≡ relations_of alphabet automaton form

-- what holds where it did: a fresh evaluation of the longer automaton is not refused and gives the same slice and the same answer, and no bit is lost (02 R-8)
pub record CarriedOver (alphabet form automaton new held left : List ℕ) (mask : ℕ) : Type 0 where
  pub fresh : evaluation_refusal alphabet (longer automaton new) form (length held) ≡ 0
  pub relations : left ≡ lent_after 0 (relations_of alphabet (longer automaton new) form) held
  pub answer : mask ≡ form_mask alphabet (longer automaton new) form
  pub bits : (i k : ℕ) → has (get_or held i 0) k ≡ true → has (get_or left i 0) k ≡ true

-- a run of one list of transitions is one of the other, on every tree and on every context (02 R-8)
pub record RunsKept (δ δ' : List Transition) : Type 0 where
  pub run : (t : Tree) (q : ℕ) → Run δ t q → Run δ' t q
  pub run_at : (c : Context) (p q : ℕ) → RunAt δ c p q → RunAt δ' c p q

-- what is read of an entry of a rule with so many open places: in rank 0 only bits 0 to 7 (02 R-8)
abbrev pub read_of : ℕ → ℕ → ℕ
read_of zero x = x % 2 ^ 8
read_of (suc k) x = x

-- two slices in which the same is read of every entry that is kept end with the same in every entry that is redone (02 R-8)
abbrev pub LowBitsRead : List ℕ → List ℕ → List ℕ → List ℕ → Type 0
LowBitsRead alphabet form automaton new =
    let rules = form_rules alphabet form in
    (held held' : List ℕ)
    → ((i : ℕ) → i < rule_count form → (Depends rules (new_terminal new) i → ⊥) → read_of (holes (rule_at rules i)) (get_or held i 0) ≡ read_of (holes (rule_at rules i)) (get_or held' i 0))
    → (i : ℕ) → Depends rules (new_terminal new) i
    → get_or (added_relations alphabet form automaton new held) i 0 ≡ get_or (added_relations alphabet form automaton new held') i 0
