-- A parameter is present by the computed flags where it occurs in what the rule derives.
use mathlib.Core.Path.{◌≡◌, refl, sym, ◌∙◌, ap, subst}
use mathlib.Core.Bool.{Bool, true, false}
use mathlib.Core.Logic.{◌↔◌}
use mathlib.Core.List.{List, [], ◌∷◌}
use Prim.Native.Nat.{ℕ, zero, suc, ◌+◌, ◌≤◌, ◌<◌}
use native.Mathlib.Omega.{arith}
use lib.ListN.{length, get_or, take}
use borrow.Author.Tests.{eq-eqb, ne_eqb}
use Rattle.terms.specs.Test.{tabulate}
use Rattle.terms.specs.Tree.{Tree, Forest, node, none, more, count, pick, preorder, preorders}
use Rattle.terms.specs.Grammar.{Name, terminal, nonterminal, parameter, nothing, name, Rule, rule_rank, right_side, is_parameter, sum_over, name_value, value, values, apply, Proper}
use Rattle.terms.proofs.Tabulate.{length-tabulate}
use Rattle.terms.proofs.Grammar.Name.{name-terminal, terminal-byte, name-parameter}
use Rattle.terms.proofs.Grammar.Sum.{sum_over_append}
use Rattle.cleaning_terms.specs.Cleaning.{present, trues, cleaned, rule_sifted}
use Rattle.cleaning_terms.specs.Presence.{leaves, open_tree, Occurs, is_present}
use Rattle.cleaning_terms.proofs.Flags.{chosen, count_chosen, pick_chosen, trues-below, flag_inside, length-present}
use Rattle.cleaning_terms.proofs.Sifted.{sifted_at, cleaned-length, cleaned-rank}
use Rattle.cleaning_terms.proofs.Right.{flags}
use Rattle.cleaning_terms.proofs.Value.{cleaned-apply}
use Rattle.cleaning_terms.proofs.Proper.{cleaned-clean}
use Rattle.cleaning_terms.proofs.Used.{apply_used}

-- how often parameter j occurs in a tree
abbrev uses : ℕ → Tree → ℕ
uses j t = sum_over (is_parameter j) (preorder t)

abbrev all_uses : ℕ → Forest → ℕ
all_uses j ts = sum_over (is_parameter j) (preorders ts)

terminal_uses : (j m f : ℕ) → name m ≡ terminal f → is_parameter j (name f) ≡ 0
terminal_uses j m f e = ap (is_parameter j) (name-terminal f (terminal-byte m f e).1)

uses_pick : (j : ℕ) (ts : Forest) (q : ℕ) → uses j (pick ts q) ≤ all_uses j ts
unfolding preorder preorders pick name
uses_pick j none q = omega arith
uses_pick j (more t ts) zero = omega (arith, sum_over_append (is_parameter j) (preorder t) (preorders ts))
uses_pick j (more t ts) (suc q) = omega (arith, sum_over_append (is_parameter j) (preorder t) (preorders ts), uses_pick j ts q)

-- a parameter that does not occur in the arguments does not occur in the value

module _ (j : ℕ) (call : ℕ → Forest → Tree) (calls : (r : ℕ) (us : Forest) → all_uses j us ≡ 0 → uses j (call r us) ≡ 0) (args : Forest) (z : all_uses j args ≡ 0) where
  name_free : (m : ℕ) (x : Name) → name m ≡ x → (us : Forest) → all_uses j us ≡ 0 → uses j (name_value call args us x) ≡ 0
  unfolding preorder preorders name
  name_free m (terminal f) e us h = omega (arith, terminal_uses j m f e)
  name_free m (nonterminal r) e us h = calls r us h
  name_free m (parameter q) e us h = omega (arith, uses_pick j args q)
  name_free m nothing e us h = refl

  mutual
    unfolding value values preorders

    value_free : (t : Tree) → uses j (value call args t) ≡ 0
    value_free (node m ts) = name_free m (name m) refl (values call args ts) (values_free ts)

    values_free : (ts : Forest) → all_uses j (values call args ts) ≡ 0
    values_free none = refl
    values_free (more t ts) =
        omega (arith, sum_over_append (is_parameter j) (preorder (value call args t)) (preorders (values call args ts)), value_free t, values_free ts)

apply_free : (j : ℕ) (rhs : ℕ → Tree) (k i : ℕ) (args : Forest) → all_uses j args ≡ 0 → uses j (apply rhs k i args) ≡ 0
unfolding apply preorder preorders name
apply_free j rhs zero i args z = refl
apply_free j rhs (suc k) i args z = value_free j (apply rhs k) (apply_free j rhs k) args z (rhs i)

-- parameters as trees

count-leaves : (ms : List ℕ) → count (leaves ms) ≡ length ms
unfolding count leaves
count-leaves [] = refl
count-leaves (m ∷ ms) = ap suc (count-leaves ms)

pub pick-leaves : (n : ℕ) (g : ℕ → ℕ) (q : ℕ) → q < n → pick (leaves (tabulate n g)) q ≡ node (g q) none
unfolding pick leaves tabulate
pick-leaves zero g q h = absurd (omega arith)
pick-leaves (suc n) g zero h = refl
pick-leaves (suc n) g (suc q) h = pick-leaves n (λ k. g (suc k)) q (omega arith)

chosen_free : (j n : ℕ) (g : ℕ → ℕ) (bs : List Bool) → ((k : ℕ) → k < n → get_or bs k false ≡ true → is_parameter j (name (g k)) ≡ 0)
    → all_uses j (chosen bs (leaves (tabulate n g))) ≡ 0
unfolding chosen leaves tabulate preorder preorders
chosen_free j zero g [] h = refl
chosen_free j zero g (b ∷ bs) h = refl
chosen_free j (suc n) g [] h = refl
chosen_free j (suc n) g (true ∷ bs) h = omega (arith, h 0 (omega arith) refl, chosen_free j n (λ k. g (suc k)) bs (λ k l. h (suc k) (omega arith)))
chosen_free j (suc n) g (false ∷ bs) h = chosen_free j n (λ k. g (suc k)) bs (λ k l. h (suc k) (omega arith))

parameter_uses : (j : ℕ) → j < 4 → uses j (node (0x80 + j) none) ≡ 1
unfolding preorder preorders
parameter_uses j h = rw (name-parameter j h, eq-eqb j j refl) (omega arith)

other_parameter : (j k : ℕ) → k < 4 → (j ≡ k → ⊥) → is_parameter j (name (0x80 + k)) ≡ 0
other_parameter j k h n = rw (name-parameter k h, ne_eqb j k n)

module _ (alphabet : List ℕ) (rules : List Rule) (p : Proper alphabet rules) (i : ℕ) (h : i < length rules) (j : ℕ) where
  abbrev symbols : Forest
  symbols = leaves (tabulate (rule_rank rules i) (λ k. 0x80 + k))

  abbrev clean : List Rule
  clean = cleaned alphabet rules

  abbrev marks : List Bool
  marks = flags alphabet rules p i

  arity : count symbols ≡ rule_rank rules i
  arity = count-leaves (tabulate (rule_rank rules i) (λ k. 0x80 + k)) ∙ length-tabulate (rule_rank rules i) (λ k. 0x80 + k)

  fits : count symbols ≡ length marks
  fits = arity ∙ sym (length-present (rule_sifted alphabet rules i))

  abbrev new_tree : Tree
  new_tree = apply (right_side alphabet clean) (suc i) i (chosen marks symbols)

  same-tree : new_tree ≡ open_tree alphabet rules i
  unfolding open_tree
  same-tree = cleaned-apply alphabet rules p (suc i) i (omega arith) h symbols arity

  flag_uses : get_or marks j false ≡ true → 1 ≤ uses j new_tree
  flag_uses e =
      let l : j < rule_rank rules i = omega (arith, flag_inside marks j e, length-present (rule_sifted alphabet rules i)) in
      let q = trues (take j marks) in
      let r = cleaned-rank alphabet rules i h in
      let s : pick (chosen marks symbols) q ≡ node (0x80 + j) none = pick_chosen marks symbols j fits e ∙ pick-leaves (rule_rank rules i) (λ k. 0x80 + k) j l in
      let u = ap (uses j) s ∙ parameter_uses j (omega (arith, (p.proper i h).rank)) in
      let a = apply_used (is_parameter j) alphabet clean (cleaned-clean alphabet rules p) (suc i) i (omega arith) (omega (arith, cleaned-length alphabet rules)) (chosen marks symbols)
      (count_chosen marks symbols fits ∙ sym r) q (omega (arith, trues-below marks j e)) in
      omega arith

  no_flag_uses : get_or marks j false ≡ false → uses j new_tree ≡ 0
  no_flag_uses e =
      apply_free j (right_side alphabet clean) (suc i) i (chosen marks symbols)
      (chosen_free j (rule_rank rules i) (λ k. 0x80 + k) marks
      (λ k l t. other_parameter j k (omega (arith, (p.proper i h).rank)) (λ d. clash (subst (λ n. get_or marks n false ≡ true) (sym d) t))))
    where
      clash : get_or marks j false ≡ true → ⊥
      clash t = let z : ◌≡◌ {A = ℕ} 0 1 = cc in omega arith

  flag_of_uses : (b : Bool) → get_or marks j false ≡ b → 1 ≤ uses j new_tree → b ≡ true
  flag_of_uses true e l = refl
  flag_of_uses false e l = absurd (omega (arith, no_flag_uses e))

  flag_is : is_present alphabet rules i j ≡ get_or marks j false
  unfolding is_present
  flag_is = ap (λ (r : Rule). get_or (present r) j false) (sifted_at alphabet rules (length rules) i h)

  -- the computed flag says whether the parameter occurs in what the rule derives
  pub presence : (is_present alphabet rules i j ≡ true) ↔ Occurs alphabet rules i j
  unfolding Occurs
  presence = (
    λ e. subst (λ t. 1 ≤ uses j t) same-tree (flag_uses (sym flag_is ∙ e)),
    λ o. flag_is ∙ flag_of_uses (get_or marks j false) refl (subst (λ t. 1 ≤ uses j t) (sym same-tree) o),
  )
