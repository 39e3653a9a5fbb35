-- What the numbers of an evaluation say of runs (document 01, "Derived tree and run" and "Mask from the form").
use Rattle.std.specs.Prelude.{◌↔◌, ◌≡◌, true, List, ℕ, ◌+◌, ◌*◌, ◌^◌, ◌<◌, get_or}
use Rattle.terms.specs.Tree.{Tree}
use Rattle.terms.specs.Context.{Context}
use Rattle.terms.specs.Automaton.{Transition, Run, has}
use Rattle.terms.specs.Relation.{RunAt}
use Rattle.terms.specs.Form.{Value, closed, context, value_at}
use Rattle.terms.specs.Sheet.{transitions_of}
use Rattle.terms.specs.FormBytes.{rule_count, form_rules, form_tree}

-- x has bit q exactly where a run on the tree ends in q at the root (01 Derived tree and run)
abbrev pub TreeRuns : List Transition → Tree → ℕ → Type 0
TreeRuns δ t x = (q : ℕ) → (has x q ≡ true) ↔ Run δ t q

-- x has bit 8 * p + q exactly where a run on the context that enters at the open place in p ends in q at the root (01 Mask from the form)
abbrev pub ContextRuns : List Transition → Context → ℕ → Type 0
ContextRuns δ c x = (p q : ℕ) → p < 8 → q < 8 → (has x (8 * p + q) ≡ true) ↔ RunAt δ c p q

-- the entry x of a rule is what runs on that say which the rule derives; in rank 0 it is below 256 (01 Mask from the form)
abbrev pub EntryRuns : List Transition → Value → ℕ → Type 0
EntryRuns δ (closed t) x = TreeRuns δ t x × (x < 2 ^ 8)
EntryRuns δ (context c) x = ContextRuns δ c x

-- the entry of every rule, and the mask that is answered, are what runs say (01 Mask from the form)
pub record EvaluationRuns (alphabet automaton form relations : List ℕ) (mask : ℕ) : Type 0 where
  pub entries : (i : ℕ) → i < rule_count form → EntryRuns (transitions_of alphabet automaton) (value_at (form_rules alphabet form) i) (get_or relations i 0)
  pub answer : TreeRuns (transitions_of alphabet automaton) (form_tree alphabet form) mask
