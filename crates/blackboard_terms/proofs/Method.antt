-- What a scan of a rule's nodes under a choice finds is the byte of that choice, where calls are worked out from the tables of lower rules.
use mathlib.Core.Logic.{◌↔◌}
use mathlib.Core.Path.{◌≡◌, refl, sym, ◌∙◌, ap, ap₂, subst}
use mathlib.Core.Bool.{Bool, true, false}
use mathlib.Core.List.{List, [], ◌∷◌}
use Prim.Native.Nat.{ℕ, zero, suc, ◌+◌, ◌^◌, ◌<◌}
use native.Mathlib.Omega.{arith}
use native.Mathlib.Decide.{dec_lt}
use lib.Dec.{T}
use lib.ListN.{length}
use lib.Pow.{pow-lt}
use Rattle.terms.specs.Test.{tabulate}
use Rattle.terms.specs.Tree.{Tree, Forest, node, none, more, count, pick}
use Rattle.terms.specs.Grammar.{Name, terminal, nonterminal, parameter, nothing, name, Rule, rule_at, rule_rank, rank_in, right_side, name_value, value, values, apply, Proper}
use Rattle.terms.specs.Automaton.{Transition, has, step, mask, masks}
use Rattle.terms.proofs.Test.{is_true}
use Rattle.terms.proofs.Automaton.Bits.{power_has, power_only}
use Rattle.terms.proofs.Automaton.Step.{step_in, step-out, step_lt}
use Rattle.terms.proofs.Automaton.Mask.{mask-run, run-mask, mask_lt}
use Rattle.terms.proofs.Grammar.Name.{terminal-byte}
use Rattle.terms.proofs.Grammar.Fine.{FineName, Fine, Fines, right_fine}
use Rattle.terms.proofs.Grammar.Value.{apply-more, count-values}
use Rattle.cleaning_terms.specs.Presence.{leaves, open_tree, Occurs}
use Rattle.cleaning_terms.proofs.Presence.{pick-leaves}
use Rattle.blackboard_terms.specs.Blackboard.{opened, state_at, is_choice, table_byte, rule_table}
use Rattle.blackboard_terms.specs.Step.{entered, call_states, name_states, scanned}
use Rattle.blackboard_terms.proofs.Subst.{Extends}
use Rattle.blackboard_terms.proofs.Entering.{extends, parameter-run, run-parameter}
use Rattle.blackboard_terms.proofs.Sets.{same_set, call_lt}
use Rattle.blackboard_terms.proofs.Digits.{state_lt, choice-own}
use Rattle.blackboard_terms.proofs.Bits.{Within, Sound, small, opened-within}
use Rattle.blackboard_terms.proofs.Calls.{call_iff}
use Rattle.blackboard_terms.proofs.Fold.{folded, folded_all, scan-rule}

-- as many sets as trees
length-masks : (δ : List Transition) (us : Forest) → length (masks δ us) ≡ count us
unfolding masks count
length-masks δ none = refl
length-masks δ (more u us) = ap suc (length-masks δ us)

-- a node of a terminal takes no other transitions
step_same : (δ δ' : List Transition) → Extends δ δ' → (Q : ℕ) → Q < 9 → Within Q δ → Within Q δ' → (f : ℕ) → f < 0x20 → (ms : List ℕ) → step δ f ms ≡ step δ' f ms
step_same δ δ' x Q few w w' f l ms =
    same_set (step δ f ms) (step δ' f ms) (step_lt δ f ms) (step_lt δ' f ms) (λ q. (
      λ h. (
          let (τ, i, a, b, c) = step-out δ f ms q h in
          step_in δ' (λ σ k. omega (arith, w' σ k)) f ms q (τ, x.old τ i, a, b, c)
          ),
      λ h. (
          let (τ, i, a, b, c) = step-out δ' f ms q h in
          step_in δ (λ σ k. omega (arith, w σ k)) f ms q (τ, x.new τ i (rw a l), a, b, c)
          ),
    ))

module _ (alphabet : List ℕ) (rules : List Rule) (proper : Proper alphabet rules) where
  abbrev derives : ℕ → ℕ → Forest → Tree
  derives k r us = apply (right_side alphabet rules) k r us

  -- a rule calls lower ones, so that any number of steps above its own is enough
  steps_enough : (k r : ℕ) → r < k → r < length rules → (us : Forest) → derives k r us ≡ derives (suc r) r us
  steps_enough zero r l h us = absurd (omega arith)
  steps_enough (suc k) r l h us = go (dec_lt r k) (λ m. steps_enough k r m h us)
    where
      go : Dec (r < k) → (r < k → derives k r us ≡ derives (suc r) r us) → derives (suc k) r us ≡ derives (suc r) r us
      go (yes m) ih =
          sym (apply-more alphabet (rule_rank rules) (right_side alphabet rules) (length rules) (λ i n. right_fine alphabet rules i (proper.proper i n)) k r m h us) ∙ ih m
      go (no m) ih = let e : k ≡ r = omega arith in ap (λ (n : ℕ). derives (suc n) r us) e

  module _ (δ : List Transition) (Q : ℕ) (a : Sound δ Q) (i : ℕ) (h : i < length rules)
      (present : ℕ → ℕ → Bool) (exact : (r : ℕ) → r < i → (j : ℕ) → (present r j ≡ true) ↔ Occurs alphabet rules r j)
      (call : ℕ → List ℕ → ℕ) (calls : (r : ℕ) → r < i → (ms : List ℕ) → length ms ≡ rule_rank rules r → call r ms ≡ call_states (rule_table alphabet rules δ Q r) (entered (present r) ms))
      (c : ℕ) (choice : T (is_choice Q (rule_rank rules i) c)) where
    abbrev n : ℕ
    n = rule_rank rules i

    abbrev δ' : List Transition
    δ' = opened rules δ i (state_at c)

    abbrev nodes : Forest
    nodes = leaves (tabulate n (λ j. 0x80 + j))

    within : Within Q δ'
    within = opened-within alphabet rules δ Q proper a i h (state_at c) (choice-own Q n c (proper.proper i h).rank choice)

    extended : Extends δ δ'
    extended = extends n (state_at c) δ

    parameter_states : (j : ℕ) → j < n → 2 ^ state_at c j ≡ mask δ' (pick nodes j)
    parameter_states j l =
        rw (pick-leaves n (λ k. 0x80 + k) j l)
        (same_set (2 ^ state_at c j) (mask δ' (node (0x80 + j) none)) (pow-lt (state_lt c j)) (mask_lt δ' (node (0x80 + j) none)) (λ q. (
          λ t. subst (λ (s : ℕ). T (has (mask δ' (node (0x80 + j) none)) s)) (power_only (state_at c j) q t)
              (run-mask δ' (small alphabet rules δ Q proper a δ' within) (node (0x80 + j) none) (state_at c j) (parameter-run n (state_at c) δ a.terminals j l)),
          λ t. subst (λ (s : ℕ). T (has (2 ^ state_at c j) s)) (run-parameter n (state_at c) δ a.terminals j l q (mask-run δ' (node (0x80 + j) none) q t)) (power_has (state_at c j)),
        )))

    call-mask : (r : ℕ) → r < i → (us : Forest) → count us ≡ rule_rank rules r → call r (masks δ' us) ≡ mask δ' (derives i r us)
    call-mask r l us e =
        let m : r < length rules = omega arith in
        rw (calls r l (masks δ' us) (length-masks δ' us ∙ e), steps_enough i r l m us)
        (same_set (call_states (rule_table alphabet rules δ Q r) (entered (present r) (masks δ' us))) (mask δ' (derives (suc r) r us))
        (call_lt (rule_table alphabet rules δ Q r) (entered (present r) (masks δ' us))) (mask_lt δ' (derives (suc r) r us))
        (λ q.
        (let both = call_iff alphabet rules δ Q proper a r m (present r) (exact r l) δ' extended within us e q in (
          λ t. run-mask δ' (small alphabet rules δ Q proper a δ' within) (derives (suc r) r us) q (both.0 t),
          λ t. both.1 (mask-run δ' (derives (suc r) r us) q t),
        ))))

    name_states_lem : (m : ℕ) (x : Name) → name m ≡ x → (us : Forest) → FineName alphabet (rule_rank rules) i n x (count us)
        → name_states δ call c (masks δ' us) x ≡ mask δ' (name_value (derives i) nodes us x)
    unfolding mask
    name_states_lem m (terminal f) e us p = step_same δ δ' extended Q (omega (arith, a.few_states)) a.within within f (terminal-byte m f e).1 (masks δ' us)
    name_states_lem m (nonterminal r) e us p = call-mask r p.0 us p.1
    name_states_lem m (parameter j) e us p = parameter_states j p
    name_states_lem m nothing e us p = absurd p

    mutual
      unfolding folded folded_all value values masks

      side_states : (t : Tree) → Fine alphabet (rule_rank rules) i n t → folded (name_states δ call c) t ≡ mask δ' (value (derives i) nodes t)
      side_states (node m ts) p =
          ap (λ (ms : List ℕ). name_states δ call c ms (name m)) (sides_states ts p.1)
          ∙ name_states_lem m (name m) refl (values (derives i) nodes ts) (subst (FineName alphabet (rule_rank rules) i n (name m)) (sym (count-values (derives i) nodes ts)) p.0)

      sides_states : (ts : Forest) → Fines alphabet (rule_rank rules) i n ts → folded_all (name_states δ call c) ts ≡ masks δ' (values (derives i) nodes ts)
      sides_states none p = refl
      sides_states (more t ts) p = ap₂ (λ (m : ℕ) (ms : List ℕ). m ∷ ms) (side_states t p.0) (sides_states ts p.1)

    -- what the stack holds after a scan of the rule's nodes
    pub byte-scan : scanned (name_states δ call c) (rank_in alphabet rules) (rule_at rules i).nodes ≡ table_byte alphabet rules δ Q i c ∷ []
    unfolding table_byte open_tree apply
    byte-scan =
        scan-rule (name_states δ call c) alphabet rules i (proper.proper i h)
        ∙ ap (λ (x : ℕ). x ∷ []) (side_states (right_side alphabet rules i) (right_fine alphabet rules i (proper.proper i h)) ∙ rw (is_true (is_choice Q n c) choice))

-- the byte of what is no choice
pub byte_clear : (alphabet : List ℕ) (rules : List Rule) (δ : List Transition) (Q i c : ℕ) → is_choice Q (rule_rank rules i) c ≡ false → table_byte alphabet rules δ Q i c ≡ 0
unfolding table_byte
byte_clear alphabet rules δ Q i c e = rw e
