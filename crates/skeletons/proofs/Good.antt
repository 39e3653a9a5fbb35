-- Good skeletons: in normal form, over the rules of a form, with parameters below n.
use mathlib.Core.Path.{◌≡◌, refl, ap, ap₂}
use mathlib.Core.List.{List, [], ◌∷◌}
use Prim.Native.Nat.{ℕ, zero, suc, ◌+◌, ◌≤◌, ◌<◌}
use native.Mathlib.Omega.{arith}
use lib.ListN.{length}
use Rattle.terms.specs.Tree.{Forest, node, more, pick, join}
use Rattle.terms.specs.Context.{plug}
use Rattle.terms.specs.Grammar.{Arity}
use Rattle.terms.specs.Form.{Rule, tree_in, context_in, trees_at, value_at, Has, Slots, Valid}
use Rattle.skeletons.specs.Skeleton.{Skeleton, Skeletons, param, shut, under, branch, nil, cons, nth}
use Rattle.skeletons.specs.Skeleton.{size}
use Rattle.skeletons.proofs.Skeleton.{link, shuts, opens, sem, sems}
use Rattle.terms.proofs.Form.Valid.{Later, has_later}
use Rattle.terms.proofs.Form.Value.{value_later}

-- neither closed nor under a rule
abbrev pub Plain : Skeleton → Type 0
Plain (param i) = Unit {0}
Plain (shut a) = ⊥
Plain (under c s) = ⊥
Plain (branch f ss) = Unit {0}

-- rank is that of terminals, rs the form's rules, n the number of parameters
abbrev mutual
  pub Good : List ℕ → List Rule → ℕ → Skeleton → Type 0
  Good alphabet rs n (param i) = i < n
  Good alphabet rs n (shut a) = Has rs (length rs) 0 a
  Good alphabet rs n (under c s) = Has rs (length rs) 1 c × Plain s × Good alphabet rs n s
  Good alphabet rs n (branch f ss) = Arity alphabet f (size ss) × (2 ≤ opens ss) × Goods alphabet rs n ss

  pub Goods : List ℕ → List Rule → ℕ → Skeletons → Type 0
  Goods alphabet rs n nil = Unit {0}
  Goods alphabet rs n (cons s ss) = Good alphabet rs n s × Goods alphabet rs n ss

module _ (alphabet : List ℕ) {rs rs' : List Rule} (l : Later rs rs') (n : ℕ) where
  has_now : {k a : ℕ} → Has rs (length rs) k a → Has rs' (length rs') k a
  has_now {k} {a} h = has_later l (length rs) (length rs') (omega arith) l.longer k a h

  mutual
    pub good_later : (s : Skeleton) → Good alphabet rs n s → Good alphabet rs' n s
    good_later (param i) g = g
    good_later (shut a) g = has_now g
    good_later (under c s) g = (has_now g.0, g.1, good_later s g.2)
    good_later (branch f ss) g = (g.0, g.1, goods_later ss g.2)

    pub goods_later : (ss : Skeletons) → Goods alphabet rs n ss → Goods alphabet rs' n ss
    goods_later nil g = tt
    goods_later (cons s ss) g = (good_later s g.0, goods_later ss g.1)

-- the rules behind do not change what a skeleton means
module _ {alphabet : List ℕ} {rs rs' : List Rule} (v : Valid alphabet rs) (l : Later rs rs') (n : ℕ) (args : Forest) where
  mutual
    pub sem_later : (s : Skeleton) → Good alphabet rs n s → sem rs' args s ≡ sem rs args s
    sem_later (param i) g = refl
    sem_later (shut a) g = ap tree_in (value_later v l a g.below)
    sem_later (under c s) g = ap₂ plug (ap context_in (value_later v l c g.0.below)) (sem_later s g.2)
    sem_later (branch f ss) g = ap (node f) (sems_later ss g.2)

    pub sems_later : (ss : Skeletons) → Goods alphabet rs n ss → sems rs' args ss ≡ sems rs args ss
    sems_later nil g = refl
    sems_later (cons s ss) g = ap₂ more (sem_later s g.0) (sems_later ss g.1)

-- the arguments of a call

pub good_nth : (alphabet : List ℕ) (rs : List Rule) (n : ℕ) (ss : Skeletons) → Goods alphabet rs n ss → (i : ℕ) → i < size ss → Good alphabet rs n (nth ss i)
good_nth alphabet rs n nil g i h = absurd (omega arith)
good_nth alphabet rs n (cons s ss) g zero h = g.0
good_nth alphabet rs n (cons s ss) g (suc i) h = good_nth alphabet rs n ss g.1 i (omega arith)

pub sem_nth : (rs : List Rule) (args : Forest) (ss : Skeletons) (i : ℕ) → sem rs args (nth ss i) ≡ pick (sems rs args ss) i
unfolding pick
sem_nth rs args nil i = refl
sem_nth rs args (cons s ss) zero = refl
sem_nth rs args (cons s ss) (suc i) = sem_nth rs args ss i

-- closed skeletons

pub goods_shuts : (alphabet : List ℕ) (rs : List Rule) (n : ℕ) (slots : List ℕ) → Goods alphabet rs n (shuts slots) → Slots rs (length rs) slots
goods_shuts alphabet rs n [] g = tt
goods_shuts alphabet rs n (a ∷ slots) g = (g.0, goods_shuts alphabet rs n slots g.1)

pub goods_link : (alphabet : List ℕ) (rs : List Rule) (n : ℕ) (ls : List ℕ) (ss : Skeletons) → Goods alphabet rs n (link (shuts ls) ss)
    → Slots rs (length rs) ls × Goods alphabet rs n ss
goods_link alphabet rs n [] ss g = (tt, g)
goods_link alphabet rs n (a ∷ ls) ss g = let h = goods_link alphabet rs n ls ss g.1 in ((g.0, h.0), h.1)

pub size_shuts : (slots : List ℕ) → size (shuts slots) ≡ length slots
size_shuts [] = refl
size_shuts (a ∷ slots) = ap suc (size_shuts slots)

pub size_link : (ls : List ℕ) (ss : Skeletons) → size (link (shuts ls) ss) ≡ length ls + size ss
size_link [] ss = omega arith
size_link (a ∷ ls) ss = omega (arith, size_link ls ss)

pub sems_shuts : (rs : List Rule) (args : Forest) (slots : List ℕ) → sems rs args (shuts slots) ≡ trees_at (value_at rs) slots
unfolding trees_at
sems_shuts rs args [] = refl
sems_shuts rs args (a ∷ slots) = ap (more (tree_in (value_at rs a))) (sems_shuts rs args slots)

pub sems_link : (rs : List Rule) (args : Forest) (ls : List ℕ) (ss : Skeletons)
    → sems rs args (link (shuts ls) ss) ≡ join (trees_at (value_at rs) ls) (sems rs args ss)
unfolding trees_at join
sems_link rs args [] ss = refl
sems_link rs args (a ∷ ls) ss = ap (more (tree_in (value_at rs a))) (sems_link rs args ls ss)
