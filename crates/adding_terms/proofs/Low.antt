-- Of an entry of rank 0 only bits 0 to 7 are read.
use mathlib.Core.Path.{◌≡◌, refl, sym, ap, ap₂, ◌∙◌}
use mathlib.Core.Bool.{Bool, true, false, ◌&&◌}
use mathlib.Core.List.{List, [], ◌∷◌}
use Prim.Native.Nat.{ℕ, zero, suc, ◌%◌, ◌<◌}
use native.Mathlib.Omega.{arith}
use lib.ListN.{length, get_or}
use Rattle.terms.specs.Test.{some}
use Rattle.terms.specs.Automaton.{Transition, has}
use Rattle.terms.specs.Form.{Rule, whole, pierced, filled, composed, rule_at, holes, Slots, Fits, Valid}
use Rattle.terms.specs.Relation.{related, apply_bits, states_at, relation_of}
use Rattle.terms.proofs.Test.{some_cong}
use Rattle.terms.proofs.Automaton.Bits.{has-set, set-has, set_cong}
use Rattle.adding_terms.specs.Dependence.{depends_at}
use Rattle.adding_terms.specs.Claims.{read_of}
use Rattle.adding_terms.proofs.Redone.{relation_local, ends, redone-again, redone-kept}

low-has : (x k : ℕ) → k < 8 → has (x % 256) k ≡ has x k
low-has x k h = rw (← set-has 8 x) (has-set 8 (has x) k h)

apply-low : (r x : ℕ) → apply_bits r (x % 256) ≡ apply_bits r x
unfolding apply_bits
apply-low r x =
    set_cong 8 (λ q. some 8 (λ p. has (x % 256) p && related r p q)) (λ q. some 8 (λ p. has x p && related r p q))
    (λ q h. some_cong 8 (λ p. has (x % 256) p && related r p q) (λ p. has x p && related r p q)
    (λ p l. ap (λ (b : Bool). b && related r p q) (low-has x p l)))

module _ (rules : List Rule) where
  -- the entries as they are read
  abbrev read : (ℕ → ℕ) → ℕ → ℕ
  read w j = read_of (holes (rule_at rules j)) (w j)

  module _ (w : ℕ → ℕ) (n : ℕ) where
    states_low : (slots : List ℕ) → Slots rules n slots → states_at (read w) slots ≡ states_at w slots
    unfolding states_at
    states_low [] p = refl
    states_low (a ∷ slots) p =
        let twice : w a % 256 % 256 ≡ w a % 256 = omega arith in
        rw p.0.rank (ap₂ (λ (x : ℕ) (xs : List ℕ). x ∷ xs) twice (states_low slots p.1))

    reads_low : (δ : List Transition) (alphabet : List ℕ) (r : Rule) → Fits alphabet rules n r → relation_of δ r (read w) ≡ relation_of δ r w
    unfolding relation_of
    reads_low δ alphabet (whole f slots) p = rw (states_low slots p.0)
    reads_low δ alphabet (pierced f ls rs) p = simp (states_low ls p.0, states_low rs p.1)
    reads_low δ alphabet (filled b c) p = rw (p.0.rank, p.1.rank) (apply-low (w b) (w c))
    reads_low δ alphabet (composed b c) p = rw (p.0.rank, p.1.rank)

module _ (δ : List Transition) (f : ℕ) {alphabet : List ℕ} {rules : List Rule} (valid : Valid alphabet rules) where
  -- a step from entries of which the same is read
  step-read : (i : ℕ) → i < length rules → (v w : ℕ → ℕ) → ((j : ℕ) → j < i → read rules v j ≡ read rules w j) → relation_of δ (rule_at rules i) v ≡ relation_of δ (rule_at rules i) w
  step-read i h v w same =
      let fit = valid.fits i h in
      sym (reads_low rules v i δ alphabet (rule_at rules i) fit) ∙ relation_local δ valid i h (read rules v) (read rules w) same ∙ reads_low rules w i δ alphabet (rule_at rules i) fit

  module _ (held held' : List ℕ) (same : (i : ℕ) → i < length rules → depends_at f rules i ≡ false → read rules (λ j. get_or held j 0) i ≡ read rules (λ j. get_or held' j 0) i) where
    abbrev now : ℕ → ℕ
    now = ends δ f valid held

    abbrev now' : ℕ → ℕ
    now' = ends δ f valid held'

    again-same : (i : ℕ) → i < length rules → depends_at f rules i ≡ true → ((j : ℕ) → j < i → read rules now j ≡ read rules now' j) → now i ≡ now' i
    again-same i h d below = redone-again δ f valid held i h d ∙ step-read i h now now' below ∙ sym (redone-again δ f valid held' i h d)

    read_same : (n i : ℕ) → i < n → i < length rules → read rules now i ≡ read rules now' i
    read_same zero i l h = absurd (omega arith)
    read_same (suc n) i l h = go (depends_at f rules i) refl (λ j m. read_same n j (omega arith) (omega arith))
      where
        go : (b : Bool) → depends_at f rules i ≡ b → ((j : ℕ) → j < i → read rules now j ≡ read rules now' j) → read rules now i ≡ read rules now' i
        go true d below = ap (read_of (holes (rule_at rules i))) (again-same i h d below)
        go false d below = rw (redone-kept δ f valid held i h d, redone-kept δ f valid held' i h d) (same i h d)

    pub same-again : (i : ℕ) → i < length rules → depends_at f rules i ≡ true → now i ≡ now' i
    same-again i h d = again-same i h d (λ j m. read_same i j m (omega arith))
