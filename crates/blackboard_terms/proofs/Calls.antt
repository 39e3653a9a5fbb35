-- The states of a call, from the table of its rule and the states of its arguments, are those that runs end in on the tree that the call becomes.
use mathlib.Core.Logic.{◌↔◌}
use mathlib.Core.Path.{◌≡◌, refl, sym, ◌∙◌}
use mathlib.Core.Bool.{Bool, true, false, cond, ◌&&◌}
use mathlib.Core.List.{List}
use Prim.Native.Nat.{ℕ, zero, suc, ◌≤◌, ◌<◌}
use native.Mathlib.Omega.{arith}
use lib.Dec.{T}
use lib.ListN.{length, get_or}
use Rattle.terms.specs.Test.{some}
use Rattle.terms.specs.Tree.{Forest, none, more, count, pick}
use Rattle.terms.specs.Grammar.{Rule, rule_rank, right_side, apply, Proper}
use Rattle.terms.specs.Automaton.{Transition, Run, has, mask, masks}
use Rattle.terms.proofs.Test.{both, both_0, both_1, some_in, some_out, every_at, every_of}
use Rattle.terms.proofs.Tabulate.{get_d_tabulate}
use Rattle.terms.proofs.Automaton.Bits.{power_has}
use Rattle.terms.proofs.Automaton.Mask.{mask-run, run-mask}
use Rattle.cleaning_terms.specs.Presence.{Occurs}
use Rattle.blackboard_terms.specs.Blackboard.{state_at, table_byte, rule_table}
use Rattle.blackboard_terms.specs.Step.{entered, from_sets, call_states}
use Rattle.blackboard_terms.proofs.Term.{Term, open_term, RunOpen, Present}
use Rattle.blackboard_terms.proofs.Open.{open_apply}
use Rattle.blackboard_terms.proofs.Fit.{open_fits, open_linear}
use Rattle.blackboard_terms.proofs.Subst.{Extends, run_agree, in_run, out-run}
use Rattle.blackboard_terms.proofs.Entering.{open_few, entering_iff, occurs_iff}
use Rattle.blackboard_terms.proofs.Sets.{set_in, set_out}
use Rattle.blackboard_terms.proofs.Digits.{choice_of, choice_lt, state_choice}
use Rattle.blackboard_terms.proofs.Bits.{Within, Sound, run-within, small, byte-bit}

-- the states of the tree at a place
masks-pick : (δ : List Transition) (us : Forest) (j : ℕ) → j < count us → get_or (masks δ us) j 0 ≡ mask δ (pick us j)
unfolding masks count pick
masks-pick δ none j h = absurd (omega arith)
masks-pick δ (more u us) zero h = refl
masks-pick δ (more u us) (suc j) h = masks-pick δ us j (omega arith)

-- the set of a parameter that is present, and of one that is not
module _ (present : ℕ → Bool) (ms : List ℕ) (j : ℕ) (h : j < 4) where
  abbrev set : ℕ
  set = get_or (entered present ms) j 0

  entered-is : set ≡ cond (present j) (get_or ms j 0) 1
  entered-is = get_d_tabulate 4 (λ k. cond (present k) (get_or ms k 0) 1) 0 j h

  pub entered_here : present j ≡ true → set ≡ get_or ms j 0
  entered_here e = entered-is ∙ rw e

  pub entered_else : present j ≡ false → set ≡ 1
  entered_else e = entered-is ∙ rw e

module _ (alphabet : List ℕ) (rules : List Rule) (δ : List Transition) (Q : ℕ) (proper : Proper alphabet rules) (a : Sound δ Q) (r : ℕ) (h : r < length rules)
    (present : ℕ → Bool) (exact : (j : ℕ) → (present j ≡ true) ↔ Occurs alphabet rules r j)
    (δ' : List Transition) (x : Extends δ δ') (within : Within Q δ') (us : Forest) (arity : count us ≡ rule_rank rules r) (q : ℕ) where
  abbrev table : List ℕ
  table = rule_table alphabet rules δ Q r

  abbrev sets : List ℕ
  sets = entered present (masks δ' us)

  abbrev term : Term
  term = open_term alphabet rules r

  few : rule_rank rules r ≤ 4
  few = (proper.proper r h).rank

  is-present : (j : ℕ) → Present j term → present j ≡ true
  is-present j p = (exact j).1 ((occurs_iff alphabet rules proper r h j).1 p)

  of_present : (j : ℕ) → present j ≡ true → Present j term
  of_present j e = (occurs_iff alphabet rules proper r h j).0 ((exact j).0 e)

  own : (j : ℕ) → Present j term → j < rule_rank rules r
  own j p = open_few alphabet rules proper r h j p

  -- the set of a present parameter has the states of its argument
  argument : (j : ℕ) → Present j term → get_or sets j 0 ≡ mask δ' (pick us j)
  argument j p =
      entered_here present (masks δ' us) j (omega (arith, own j p, few)) (is-present j p) ∙ masks-pick δ' us j (omega (arith, own j p))

  byte_at : (c : ℕ) → c < 4096 → get_or table c 0 ≡ table_byte alphabet rules δ Q r c
  unfolding rule_table
  byte_at c l = get_d_tabulate 4096 (table_byte alphabet rules δ Q r) 0 c l

  abbrev chosen : ℕ → Bool
  chosen c = from_sets sets c && has (get_or table c 0) q

  call-run : T (has (call_states table sets) q) → Run δ' (apply (right_side alphabet rules) (suc r) r us) q
  unfolding call_states
  call-run t =
      let (c, l, k) = some_out 4096 chosen (set_out (λ s. some 4096 (λ c. from_sets sets c && has (get_or table c 0) s)) q t).1 in
      let within-sets = every_at 4 (λ j. has (get_or sets j 0) (state_at c j)) (both_0 (from_sets sets c) (has (get_or table c 0) q) k) in
      let bit = (byte-bit alphabet rules δ Q proper a r h c q).0 (rw (byte_at c l) at (both_1 (from_sets sets c) (has (get_or table c 0) q) k)) in
      rw (open_apply alphabet rules r us)
      (in_run δ δ' x us term q (state_at c)
      (λ j p. mask-run δ' (pick us j) (state_at c j) (rw (argument j p) at (within-sets j (omega (arith, own j p, few)))))
      ((entering_iff alphabet rules proper r h δ a.terminals (state_at c) q).0 bit.run))

  -- an open run that enters where runs on the arguments end, and 0 for the parameters that are not present
  module _ (ss : ℕ → ℕ) (ends : (j : ℕ) → Present j term → Run δ' (pick us j) (ss j)) (run : RunOpen δ ss term q) (l : q < Q) where
    abbrev rs : ℕ → ℕ
    rs j = cond (present j) (ss j) 0

    rs_lt : (j : ℕ) → rs j < Q
    rs_lt j = go (present j) (λ e. run-within Q δ' within (pick us j) (ss j) (ends j (of_present j e)))
      where
        go : (b : Bool) → (b ≡ true → ss j < Q) → cond b (ss j) 0 < Q
        go true f = f refl
        go false f = a.some_state

    abbrev c : ℕ
    c = choice_of rs

    c_lt : c < 4096
    c_lt = choice_lt rs (λ j m. omega (arith, rs_lt j, a.few_states))

    digit : (j : ℕ) → j < 4 → state_at c j ≡ rs j
    digit = state_choice rs (λ j m. omega (arith, rs_lt j, a.few_states))

    digit_here : (j : ℕ) → Present j term → state_at c j ≡ ss j
    digit_here j p = digit j (omega (arith, own j p, few)) ∙ rw (is-present j p)

    absent : (j : ℕ) → rule_rank rules r ≤ j → (b : Bool) → present j ≡ b → cond b (ss j) 0 ≡ 0
    absent j m true e = absurd (omega (arith, own j (of_present j e)))
    absent j m false e = refl

    in_set : (j : ℕ) → j < 4 → (b : Bool) → present j ≡ b → T (has (get_or sets j 0) (state_at c j))
    in_set j m true e =
        let p = of_present j e in
        rw (argument j p, digit_here j p) (run-mask δ' (small alphabet rules δ Q proper a δ' within) (pick us j) (ss j) (ends j p))
    in_set j m false e = rw (entered_else present (masks δ' us) j m e, digit j m, e) (power_has 0)

    byte-set : T (has (get_or table c 0) q)
    byte-set =
        rw (byte_at c c_lt)
        ((byte-bit alphabet rules δ Q proper a r h c q).1
        (record {
          root = l;
          own = λ j m. rw (digit j (omega (arith, few))) (rs_lt j);
          others = λ j m k. digit j m ∙ absent j k (present j) refl;
          run = (entering_iff alphabet rules proper r h δ a.terminals (state_at c) q).1 (run_agree δ ss (state_at c) term q (λ j p. sym (digit_here j p)) run);
        }))

    run_chosen : T (has (call_states table sets) q)
    unfolding call_states
    run_chosen =
        set_in (λ s. some 4096 (λ c. from_sets sets c && has (get_or table c 0) s)) q (omega (arith, a.few_states))
        (some_in 4096 chosen c c_lt
        (both (from_sets sets c) (has (get_or table c 0) q) (every_of 4 (λ j. has (get_or sets j 0) (state_at c j)) (λ j m. in_set j m (present j) refl)) byte-set))

  run_call : Run δ' (apply (right_side alphabet rules) (suc r) r us) q → T (has (call_states table sets) q)
  run_call k =
      let l = run-within Q δ' within (apply (right_side alphabet rules) (suc r) r us) q k in
      let (ss, e, s) =
      out-run δ δ' x us (rule_rank rules r) term q (open_fits alphabet rules proper r h) (open_linear alphabet rules proper r h) (rw (open_apply alphabet rules r us) at k) in
      run_chosen ss e s l

  pub call_iff : T (has (call_states table sets) q) ↔ Run δ' (apply (right_side alphabet rules) (suc r) r us) q
  call_iff = (call-run, run_call)
