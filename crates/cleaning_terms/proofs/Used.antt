-- In a clean grammar no call drops an argument: whatever is counted in the tree of an argument is counted in what the rule derives from it.
use mathlib.Core.Path.{◌≡◌, refl, sym, ◌∙◌, ap, subst}
use mathlib.Core.Bool.{Bool, cond}
use mathlib.Core.List.{List}
use Prim.Native.Nat.{ℕ, zero, suc, ◌+◌, ◌≤◌, ◌<◌}
use native.Mathlib.Omega.{arith}
use native.Mathlib.Decide.{dec_lt, ℕ_discrete}
use lib.ListN.{length}
use borrow.Author.Tests.{ne_eqb}
use Rattle.terms.specs.Tree.{Tree, Forest, node, none, more, count, pick, preorder, preorders, Ranked, RankedAll}
use Rattle.terms.specs.Grammar.{Name, terminal, nonterminal, parameter, nothing, name, Rule, rule_rank, name_rank, rank_in, right_side, is_parameter, sum_over, name_value, value, values, apply}
use Rattle.terms.proofs.Grammar.Sum.{sum_over_append}
use Rattle.terms.proofs.Grammar.Fine.{FineName, Fine, Fines, right_fine, right_ranked, right_preorder}
use Rattle.terms.proofs.Grammar.Value.{count-values}
use Rattle.cleaning_terms.specs.Clean.{Clean}

-- a sum over the symbols of a tree
abbrev counted : (Name → ℕ) → Tree → ℕ
counted g t = sum_over g (preorder t)

counted_pick : (g : Name → ℕ) (ts : Forest) (q : ℕ) → q < count ts → counted g (pick ts q) ≤ sum_over g (preorders ts)
unfolding preorder preorders pick count
counted_pick g none q h = absurd (omega arith)
counted_pick g (more t ts) zero h = omega (arith, sum_over_append g (preorder t) (preorders ts))
counted_pick g (more t ts) (suc q) h = omega (arith, sum_over_append g (preorder t) (preorders ts), counted_pick g ts q (omega arith))

-- a tree of the forest in which there is what is in t
record Found (g : Name → ℕ) (t : Tree) (us : Forest) : Type 0 where
  place : ℕ
  below : place < count us
  there : counted g t ≤ counted g (pick us place)

module _ (g : Name → ℕ) (alphabet : List ℕ) (rules : List Rule) (i n : ℕ) (call : ℕ → Forest → Tree)
    (calls : (r : ℕ) → r < i → (us : Forest) → count us ≡ rule_rank rules r → (q : ℕ) → q < rule_rank rules r → counted g (pick us q) ≤ counted g (call r us)) (args : Forest) (q : ℕ) where
  found_terminal : (m f : ℕ) → name m ≡ terminal f → (us : Forest) → Found g (pick args q) us → counted g (pick args q) ≤ counted g (node f us)
  unfolding preorder
  found_terminal m f e us w = omega (arith, w.there, counted_pick g us w.place w.below)

  name_used : (m : ℕ) (x : Name) → name m ≡ x → (us : Forest) → count us ≡ name_rank alphabet rules x → FineName alphabet (rule_rank rules) i n x (count us) → (here : ℕ)
      → 1 ≤ is_parameter q x + here → (1 ≤ here → Found g (pick args q) us) → counted g (pick args q) ≤ counted g (name_value call args us x)
  name_used m (terminal f) e us c p here l w = found_terminal m f e us (w (omega arith))
  name_used m (nonterminal r) e us c p here l w =
      let v = w (omega arith) in
      let s = v.below in
      omega (arith, v.there, calls r p.0 us c v.place (omega arith))
  name_used m (parameter k) e us c p here l w = go (ℕ_discrete q k)
    where
      go : Dec (q ≡ k) → counted g (pick args q) ≤ counted g (pick args k)
      go (yes d) = rw d (omega arith)
      go (no d) =
          let v = w (omega (arith, ap (λ (b : Bool). cond {A = ℕ} b 1 0) (ne_eqb q k d))) in
          let s = v.below in
          absurd (omega arith)
  name_used m nothing e us c p here l w = absurd p

  mutual
    unfolding value values preorder preorders Ranked RankedAll rank_in count pick

    value_used : (t : Tree) → Fine alphabet (rule_rank rules) i n t → Ranked (rank_in alphabet rules) t → 1 ≤ sum_over (is_parameter q) (preorder t) → counted g (pick args q) ≤ counted g (value call args t)
    value_used (node m ts) p r l =
        let c = count-values call args ts in
        name_used m (name m) refl (values call args ts) (c ∙ r.0) (subst (FineName alphabet (rule_rank rules) i n (name m)) (sym c) p.0) (sum_over (is_parameter q) (preorders ts)) l
        (λ h. values_used ts p.1 r.1 h)

    values_used : (ts : Forest) → Fines alphabet (rule_rank rules) i n ts → RankedAll (rank_in alphabet rules) ts → 1 ≤ sum_over (is_parameter q) (preorders ts)
        → Found g (pick args q) (values call args ts)
    values_used none p r l = absurd (omega arith)
    values_used (more t ts) p r l =
        found_next t ts (dec_lt 0 (sum_over (is_parameter q) (preorder t))) (λ h. value_used t p.0 r.0 h)
        (λ h. values_used ts p.1 r.1 (omega (arith, sum_over_append (is_parameter q) (preorder t) (preorders ts))))

    found_next : (t : Tree) (ts : Forest) → Dec (0 < sum_over (is_parameter q) (preorder t)) → (0 < sum_over (is_parameter q) (preorder t) → counted g (pick args q) ≤ counted g (value call args t))
        → ((0 < sum_over (is_parameter q) (preorder t) → ⊥) → Found g (pick args q) (values call args ts)) → Found g (pick args q) (more (value call args t) (values call args ts))
    found_next (node m us) ts (yes h) f b = record { place = 0; below = omega arith; there = f h }
    found_next (node m us) ts (no h) f b = let w = b h in let l = w.below in record { place = suc w.place; below = omega arith; there = w.there }

module _ (g : Name → ℕ) (alphabet : List ℕ) (rules : List Rule) (c : Clean alphabet rules) where
  pub apply_used : (k i : ℕ) → i < k → i < length rules → (args : Forest) → count args ≡ rule_rank rules i → (q : ℕ) → q < rule_rank rules i
      → counted g (pick args q) ≤ counted g (apply (right_side alphabet rules) k i args)
  unfolding apply
  apply_used zero i l h args e q s = absurd (omega arith)
  apply_used (suc k) i l h args e q s =
      let rhs = right_side alphabet rules in
      let o : sum_over (is_parameter q) (preorder (rhs i)) ≡ 1 = ap (sum_over (is_parameter q)) (right_preorder alphabet rules i (c.proper.proper i h)) ∙ (c.clean i h).exact q s in
      value_used g alphabet rules i (rule_rank rules i) (apply rhs k) (λ r d us f. apply_used k r (omega arith) (omega arith) us f) args q (rhs i)
      (right_fine alphabet rules i (c.proper.proper i h)) (right_ranked alphabet rules i (c.proper.proper i h)) (omega arith)
