-- The bits of a table's byte: the states at the root are those that runs end in which enter by the choice.
use mathlib.Core.Logic.{◌↔◌, ◌⊎◌, inl, inr}
use mathlib.Core.Path.{◌≡◌, refl, subst}
use mathlib.Core.Bool.{Bool, true, false, cond}
use mathlib.Core.List.{List}
use Prim.Native.Nat.{ℕ, ◌≤◌, ◌<◌}
use native.Mathlib.Omega.{arith}
use lib.Dec.{T}
use lib.ListN.{length}
use Rattle.terms.specs.Tree.{Tree, node}
use Rattle.terms.specs.Grammar.{Rule, rule_rank, Proper}
use Rattle.terms.specs.Automaton.{Transition, In, Small, Run, has, mask}
use Rattle.terms.proofs.Test.{is_true, of_true}
use Rattle.terms.proofs.Automaton.Mask.{mask-run, run-mask}
use Rattle.cleaning_terms.specs.Presence.{open_tree}
use Rattle.blackboard_terms.specs.Blackboard.{entering, opened, BitSet, state_at, is_choice, table_byte}
use Rattle.blackboard_terms.proofs.Sets.{has-none}
use Rattle.blackboard_terms.proofs.Digits.{choice-own, choice-others, choice-is}
use Rattle.blackboard_terms.proofs.Entering.{in_either, enters_out}

-- transitions that give states below Q
abbrev pub Within : ℕ → List Transition → Type 0
Within Q δ = (τ : Transition) → In τ δ → τ.target < Q

-- what is known of the transitions of an automaton with Q states that passes 14 to 16
pub record Sound (δ : List Transition) (Q : ℕ) : Type 0 where
  pub some_state : 1 ≤ Q
  pub few_states : Q ≤ 8
  pub within : Within Q δ
  pub terminals : (τ : Transition) → In τ δ → τ.terminal < 0x20

-- a run ends in a state below Q
pub run-within : (Q : ℕ) (δ : List Transition) → Within Q δ → (t : Tree) (q : ℕ) → Run δ t q → q < Q
run-within Q δ within (node f ts) q (τ, i, a, b, r) = rw b at (within τ i)

module _ (alphabet : List ℕ) (rules : List Rule) (δ : List Transition) (Q : ℕ) (proper : Proper alphabet rules) (a : Sound δ Q) where
  pub small : (δ' : List Transition) → Within Q δ' → Small δ'
  small δ' w τ i = omega (arith, w τ i, a.few_states)

  module _ (i : ℕ) (h : i < length rules) where
    pub opened-within : (ps : ℕ → ℕ) → ((j : ℕ) → j < rule_rank rules i → ps j < Q) → Within Q (opened rules δ i ps)
    opened-within ps low τ k = go (in_either τ δ (entering (rule_rank rules i) ps) k)
      where
        go : In τ δ ⊎ In τ (entering (rule_rank rules i) ps) → τ.target < Q
        go (inl l) = a.within τ l
        go (inr l) =
            let (j, m, e) = enters_out (rule_rank rules i) ps τ l in
            subst (λ (σ : Transition). σ.target < Q) e (low j m)

    module _ (c q : ℕ) where
      abbrev states : ℕ
      states = mask (opened rules δ i (state_at c)) (open_tree alphabet rules i)

      bit-out : (b : Bool) → is_choice Q (rule_rank rules i) c ≡ b → T (has (cond b states 0) q) → BitSet alphabet rules δ Q i (state_at c) q
      bit-out true e k =
          let choice = of_true (is_choice Q (rule_rank rules i) c) e in
          let own = choice-own Q (rule_rank rules i) c (proper.proper i h).rank choice in
          let run = mask-run (opened rules δ i (state_at c)) (open_tree alphabet rules i) q k in
          record {
            root = run-within Q (opened rules δ i (state_at c)) (opened-within (state_at c) own) (open_tree alphabet rules i) q run;
            own = own;
            others = choice-others Q (rule_rank rules i) c choice;
            run = run;
          }
      bit-out false e k = absurd (rw (has-none q) at k)

      pub byte-bit : T (has (table_byte alphabet rules δ Q i c) q) ↔ BitSet alphabet rules δ Q i (state_at c) q
      unfolding table_byte
      byte-bit = (
        bit-out (is_choice Q (rule_rank rules i) c) refl,
        λ b. (
            rw (is_true (is_choice Q (rule_rank rules i) c) (choice-is Q (rule_rank rules i) c b.own b.others))
            (run-mask (opened rules δ i (state_at c)) (small (opened rules δ i (state_at c)) (opened-within (state_at c) b.own)) (open_tree alphabet rules i) q b.run)
            ),
      )
