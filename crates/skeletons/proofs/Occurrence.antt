-- How often parameters occur: a rule that has each of its parameters at most once has a skeleton that does.
use mathlib.Core.Path.{◌≡◌, refl, sym, ◌∙◌, ap, ap₂}
use mathlib.Core.Bool.{Bool, true, false, cond}
use mathlib.Core.List.{List, [], ◌∷◌, ◌++◌}
use mathlib.Core.Logic.{◌⊎◌, inl, inr}
use Prim.Native.Nat.{ℕ, zero, suc, ◌+◌, ◌*◌, ◌-◌, ◌≤◌, ◌<◌}
use native.Mathlib.Omega.{arith}
use native.Mathlib.Nat.{add-mul, zero-mul, one-mul, mul-le-mul_right, eq-or-lt_of_le}
use lib.Dec.{T, eqb, eqb_refl}
use lib.ListN.{length}
use Rattle.terms.specs.Tree.{Tree, Forest, node, none, more, preorder, preorders, count}
use Rattle.terms.specs.Grammar.{Name, terminal, nonterminal, parameter, nothing, name, sum_over}
use Rattle.terms.specs.Form.{Rule, pierced}
use Rattle.terms.proofs.Grammar.Sum.{sum_over_append, sum_below, sum-front}
use Rattle.terms.proofs.Grammar.Fine.{FineName, Fine, Fines}
use Rattle.skeletons.specs.Skeleton.{Skeleton, Skeletons, param, shut, under, branch, nil, cons, nth}
use Rattle.skeletons.specs.Make.{Mades, Sort, closed, single, several, sort, contract_chain, contract_terminal_by, contract_terminal, substitute, substitutes, name-made, build, builds}
use Rattle.skeletons.specs.Skeleton.{size, weight}
use Rattle.skeletons.proofs.Skeleton.{link, shuts, total, totals}
use Rattle.skeletons.proofs.Sorting.{Sorted, sort_right}
use Rattle.skeletons.proofs.Good.{Good, Goods}
use Rattle.skeletons.proofs.Weight.{one, weight-bound}

-- x at i, and 0 elsewhere
abbrev pub spot : ℕ → ℕ → ℕ → ℕ
spot i x k = cond (eqb i k) x 0

-- each parameter occurs at most once
abbrev pub Linear : Skeleton → Type 0
Linear s = (i : ℕ) → total (spot i 1) s ≤ 1

-- h below n, and 0 from n on
abbrev upto : ℕ → (ℕ → ℕ) → ℕ → ℕ
upto zero h k = 0
upto (suc n) h k = upto n h k + spot n (h n) k

spot_self : (i x : ℕ) → spot i x i ≡ x
spot_self i x = go (eqb i i) (eqb_refl i)
  where
    go : (b : Bool) → T b → cond b x 0 ≡ x
    go true t = refl
    go false t = absurd t

spot_times : (i x k : ℕ) → spot i x k ≡ spot i 1 k * x
spot_times i x k = go (eqb i k)
  where
    go : (b : Bool) → cond b x 0 ≡ cond b 1 0 * x
    go true = sym (one-mul x)
    go false = sym (zero-mul x)

upto_last : (n : ℕ) (h : ℕ → ℕ) (k : ℕ) → (k ≡ n) ⊎ (k < n) → (k < n → h k ≤ upto n h k) → h k ≤ upto n h k + spot n (h n) k
upto_last n h k (inl e) f = rw e (omega (arith, spot_self n (h n)))
upto_last n h k (inr m) f = omega (arith, f m)

upto_above : (n : ℕ) (h : ℕ → ℕ) (k : ℕ) → k < n → h k ≤ upto n h k
upto_above zero h k l = absurd (omega arith)
upto_above (suc n) h k l = upto_last n h k (eq-or-lt_of_le (omega arith)) (upto_above n h k)

module _ (a b : ℕ → ℕ) where
  mutual
    total_add : (s : Skeleton) → total (λ k. a k + b k) s ≡ total a s + total b s
    total_add (param i) = refl
    total_add (shut c) = refl
    total_add (under c s) = total_add s
    total_add (branch f ss) = totals_add ss

    totals_add : (ss : Skeletons) → totals (λ k. a k + b k) ss ≡ totals a ss + totals b ss
    totals_add nil = refl
    totals_add (cons s ss) = omega (arith, total_add s, totals_add ss)

module _ (i x : ℕ) where
  mutual
    total_spot : (s : Skeleton) → total (spot i x) s ≡ total (spot i 1) s * x
    total_spot (param k) = spot_times i x k
    total_spot (shut c) = sym (zero-mul x)
    total_spot (under c s) = total_spot s
    total_spot (branch f ss) = totals_spot ss

    totals_spot : (ss : Skeletons) → totals (spot i x) ss ≡ totals (spot i 1) ss * x
    totals_spot nil = sym (zero-mul x)
    totals_spot (cons s ss) = rw add-mul (ap₂ (λ p q. p + q) (total_spot s) (totals_spot ss))

module _ (alphabet : List ℕ) (rs : List Rule) (n : ℕ) (a b : ℕ → ℕ) (le : (k : ℕ) → k < n → a k ≤ b k) where
  mutual
    total_le : (s : Skeleton) → Good alphabet rs n s → total a s ≤ total b s
    total_le (param i) g = le i g
    total_le (shut c) g = omega arith
    total_le (under c s) g = total_le s g.2
    total_le (branch f ss) g = totals_le ss g.2

    totals_le : (ss : Skeletons) → Goods alphabet rs n ss → totals a ss ≤ totals b ss
    totals_le nil g = omega arith
    totals_le (cons s ss) g = omega (arith, total_le s g.0, totals_le ss g.1)

mutual
  total_zero : (s : Skeleton) → total (λ k. 0) s ≡ 0
  total_zero (param i) = refl
  total_zero (shut c) = refl
  total_zero (under c s) = total_zero s
  total_zero (branch f ss) = totals_zero ss

  totals_zero : (ss : Skeletons) → totals (λ k. 0) ss ≡ 0
  totals_zero nil = refl
  totals_zero (cons s ss) = omega (arith, total_zero s, totals_zero ss)

spot_le : (s : Skeleton) → Linear s → (i x : ℕ) → total (spot i x) s ≤ x
spot_le s l i x = omega (arith, total_spot i x s, mul-le-mul_right x (l i), one-mul x)

total_upto : (s : Skeleton) → Linear s → (n : ℕ) (h : ℕ → ℕ) → total (upto n h) s ≤ sum_below n h
total_upto s l zero h = omega (arith, total_zero s)
total_upto s l (suc n) h = omega (arith, total_add (upto n h) (spot n (h n)) s, total_upto s l n h, spot_le s l n (h n))

-- the sum over the parameters of a linear skeleton is at most the sum over all parameters
pub linear-total : (alphabet : List ℕ) (rs : List Rule) (n : ℕ) (s : Skeleton) → Good alphabet rs n s → Linear s → (h : ℕ → ℕ) → total h s ≤ sum_below n h
linear-total alphabet rs n s g l h = omega (arith, total_le alphabet rs n h (upto n h) (upto_above n h) s g, total_upto s l n h)

sum_one : (n : ℕ) → sum_below n one ≡ n
sum_one zero = refl
sum_one (suc n) = omega (arith, sum_one n)

-- a linear skeleton of rank n weighs at most 4n - 3
pub weight-linear : (alphabet : List ℕ) (rs : List Rule) (n : ℕ) (s : Skeleton) → Good alphabet rs n s → Linear s → weight s ≤ 4 * n - 3
weight-linear alphabet rs n s g l = omega (arith, weight-bound alphabet rs n s g, linear-total alphabet rs n s g l one, sum_one n)

totals_nth : (h : ℕ → ℕ) (ss : Skeletons) → sum_below (size ss) (λ k. total h (nth ss k)) ≡ totals h ss
totals_nth h nil = refl
totals_nth h (cons s ss) = omega (arith, sum-front (size ss) (λ k. total h (nth (cons s ss) k)), totals_nth h ss)

-- what the steps do to the sums

totals_shuts : (h : ℕ → ℕ) (slots : List ℕ) → totals h (shuts slots) ≡ 0
totals_shuts h [] = refl
totals_shuts h (a ∷ slots) = omega (arith, totals_shuts h slots)

totals_link : (h : ℕ → ℕ) (ls : List ℕ) (ss : Skeletons) → totals h (link (shuts ls) ss) ≡ totals h ss
totals_link h [] ss = refl
totals_link h (a ∷ ls) ss = omega (arith, totals_link h ls ss)

module _ (h : ℕ → ℕ) where
  pub contract_chain_total : (rs : List Rule) (c : ℕ) (s : Skeleton) → total h (contract_chain rs c s).made ≡ total h s
  unfolding contract_chain
  contract_chain_total rs c (param i) = refl
  contract_chain_total rs c (shut a) = refl
  contract_chain_total rs c (under d s) = refl
  contract_chain_total rs c (branch f ss) = refl

  contract_terminal_by_total : (rs : List Rule) (f : ℕ) (ss : Skeletons) (x : Sort) → Sorted ss x → total h (contract_terminal_by rs f ss x).made ≡ totals h ss
  unfolding contract_terminal_by
  contract_terminal_by_total rs f ss (closed slots) e = sym (ap (totals h) e ∙ totals_shuts h slots)
  contract_terminal_by_total rs f ss (single ls s us) e =
      omega (arith, contract_chain_total (rs ++ (pierced f ls us ∷ [])) (length rs) s, ap (totals h) e.1, totals_link h ls (cons s (shuts us)), totals_shuts h us)
  contract_terminal_by_total rs f ss several e = refl

  pub contract_terminal_total : (rs : List Rule) (f : ℕ) (ss : Skeletons) → total h (contract_terminal rs f ss).made ≡ totals h ss
  unfolding contract_terminal
  contract_terminal_total rs f ss = contract_terminal_by_total rs f ss (sort ss) (sort_right ss)

  mutual
    unfolding substitute substitutes

    pub substitute-total : (args : Skeletons) (s : Skeleton) (rs : List Rule) → total h (substitute args s rs).made ≡ total (λ k. total h (nth args k)) s
    substitute-total args (param i) rs = refl
    substitute-total args (shut a) rs = refl
    substitute-total args (under c s) rs = let m = substitute args s rs in contract_chain_total m.rules c m.made ∙ substitute-total args s rs
    substitute-total args (branch f ss) rs = let m = substitutes args ss rs in contract_terminal_total m.rules f m.made ∙ substitutes-total args ss rs

    substitutes-total : (args : Skeletons) (ss : Skeletons) (rs : List Rule) → totals h (substitutes args ss rs).made ≡ totals (λ k. total h (nth args k)) ss
    substitutes-total args nil rs = refl
    substitutes-total args (cons s ss) rs = omega (arith, substitute-total args s (substitutes args ss rs).rules, substitutes-total args ss rs)

-- the sum of h over the parameters of a right side: h at a parameter
abbrev pub own : (ℕ → ℕ) → Name → ℕ
own h (terminal f) = 0
own h (nonterminal r) = 0
own h (parameter j) = h j
own h nothing = 0

-- each parameter occurs at most once in a right side
abbrev pub Once : Tree → Type 0
Once t = (i : ℕ) → sum_over (own (spot i 1)) (preorder t) ≤ 1

builds-size : (sk : ℕ → Skeleton) (ts : Forest) (rs : List Rule) → size (builds sk ts rs).made ≡ count ts
unfolding builds count
builds-size sk none rs = refl
builds-size sk (more t ts) rs = ap suc (builds-size sk ts rs)

module _ (alphabet : List ℕ) (ranks : ℕ → ℕ) (i n : ℕ) (sk : ℕ → Skeleton) (rs₀ : List Rule) (good : (r : ℕ) → r < i → Good alphabet rs₀ (ranks r) (sk r))
    (linear : (r : ℕ) → r < i → Linear (sk r)) (h : ℕ → ℕ) where
  call-total : (r : ℕ) → r < i → (args : Skeletons) → size args ≡ ranks r → (rs : List Rule) → total h (substitute args (sk r) rs).made ≤ totals h args
  call-total r l args e rs =
      let few = linear-total alphabet rs₀ (ranks r) (sk r) (good r l) (linear r l) (λ k. total h (nth args k)) in
      omega (arith, substitute-total h args (sk r) rs, few, ap (λ x. sum_below x (λ k. total h (nth args k))) e, totals_nth h args)

  name-total : (x : Name) (k c : ℕ) (m : Mades) → FineName alphabet ranks i n x k → size m.made ≡ k → totals h m.made ≤ c
      → total h (name-made sk x m).made ≤ own h x + c
  unfolding name-made
  name-total (terminal f) k c m e z l = omega (arith, contract_terminal_total h m.rules f m.made)
  name-total (nonterminal r) k c m e z l = omega (arith, call-total r e.0 m.made (z ∙ e.1) m.rules)
  name-total (parameter j) k c m e z l = omega arith
  name-total nothing k c m e z l = absurd e

  mutual
    unfolding build builds preorder preorders

    pub build-total : (t : Tree) (rs : List Rule) → Fine alphabet ranks i n t → total h (build sk t rs).made ≤ sum_over (own h) (preorder t)
    build-total (node m ts) rs e =
        name-total (name m) (count ts) (sum_over (own h) (preorders ts)) (builds sk ts rs) e.0 (builds-size sk ts rs) (builds-total ts rs e.1)

    builds-total : (ts : Forest) (rs : List Rule) → Fines alphabet ranks i n ts → totals h (builds sk ts rs).made ≤ sum_over (own h) (preorders ts)
    builds-total none rs e = omega arith
    builds-total (more t ts) rs e =
        omega (arith, builds-total ts rs e.1, build-total t (builds sk ts rs).rules e.0, sum_over_append (own h) (preorder t) (preorders ts))
