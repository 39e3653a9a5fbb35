-- Each step of making a form keeps it valid, gives a good skeleton, and means what it is to mean.
use mathlib.Core.Path.{◌≡◌, refl, sym, ◌∙◌, ap, ap₂, subst}
use mathlib.Core.List.{List, [], ◌∷◌, ◌++◌}
use Prim.Native.Nat.{ℕ, suc}
use native.Mathlib.Omega.{arith}
use lib.ListN.{length}
use Rattle.terms.specs.Tree.{Tree, Forest, node, more, join}
use Rattle.terms.specs.Context.{plug}
use Rattle.terms.specs.Grammar.{Arity}
use Rattle.terms.specs.Form.{Rule, whole, pierced, filled, composed, tree_in, context_in, trees_at, value_of, value_at, Has, Fits, Valid}
use Rattle.terms.proofs.Tree.Context.{plug-compose}
use Rattle.skeletons.specs.Skeleton.{Skeleton, Skeletons, param, shut, under, branch, nil, cons}
use Rattle.skeletons.specs.Make.{Made, Mades, Sort, closed, single, several, sort, contract_chain, contract_terminal_by, contract_terminal, substitute, substitutes}
use Rattle.skeletons.specs.Skeleton.{size}
use Rattle.skeletons.proofs.Skeleton.{link, shuts, sem, sems}
use Rattle.skeletons.proofs.Sorting.{Sorted, sort_right}
use Rattle.terms.proofs.Form.Valid.{Later, later_refl, later_trans, later_append, append-valid, has_later, has_end}
use Rattle.terms.proofs.Form.Value.{value_later, value-end}
use Rattle.skeletons.proofs.Good.{Good, Goods, good_later, goods_later, sem_later, sems_later, good_nth, sem_nth, goods_shuts, goods_link, size_shuts, size_link, sems_shuts, sems_link}

-- a step from the rules rs to m, whose skeleton, over n parameters, means d
pub record Step (alphabet : List ℕ) (rs : List Rule) (n : ℕ) (m : Made) (d : Forest → Tree) : Type 0 where
  pub valid : Valid alphabet m.rules
  pub later : Later rs m.rules
  pub good : Good alphabet m.rules n m.made
  pub means : (args : Forest) → sem m.rules args m.made ≡ d args

pub record Steps (alphabet : List ℕ) (rs : List Rule) (n : ℕ) (k : ℕ) (m : Mades) (d : Forest → Forest) : Type 0 where
  pub valid : Valid alphabet m.rules
  pub later : Later rs m.rules
  pub good : Goods alphabet m.rules n m.made
  pub count : size m.made ≡ k
  pub means : (args : Forest) → sems m.rules args m.made ≡ d args

module _ (alphabet : List ℕ) (rs : List Rule) (n : ℕ) (v : Valid alphabet rs) where
  abbrev Over : ℕ → Skeleton → Forest → Tree
  Over c s args = plug (context_in (value_at rs c)) (sem rs args s)

  contract_chain_shut : (c a : ℕ) → Has rs (length rs) 1 c → Has rs (length rs) 0 a → Step alphabet rs n (contract_chain rs c (shut a)) (Over c (shut a))
  unfolding contract_chain value_of tree_in
  contract_chain_shut c a hc g = record {
    valid = append-valid alphabet rs (filled c a) v (hc, g);
    later = later_append rs (filled c a);
    good = has_end rs (filled c a);
    means = λ args. ap tree_in (value-end v (filled c a) (hc, g));
  }

  contract_chain_under : (c d : ℕ) (s : Skeleton) → Has rs (length rs) 1 c → Good alphabet rs n (under d s)
      → Step alphabet rs n (contract_chain rs c (under d s)) (Over c (under d s))
  unfolding contract_chain value_of context_in
  contract_chain_under c d s hc g = record {
    valid = append-valid alphabet rs (composed c d) v (hc, g.0);
    later = later_append rs (composed c d);
    good = (has_end rs (composed c d), g.1, good_later alphabet (later_append rs (composed c d)) n s g.2);
    means = λ args. ap₂ plug (ap context_in (value-end v (composed c d) (hc, g.0))) (sem_later v (later_append rs (composed c d)) n args s g.2)
        ∙ plug-compose (context_in (value_at rs c)) (context_in (value_at rs d)) (sem rs args s);
  }

  pub contract_chain_step : (c : ℕ) (s : Skeleton) → Has rs (length rs) 1 c → Good alphabet rs n s
      → Step alphabet rs n (contract_chain rs c s) (λ args. plug (context_in (value_at rs c)) (sem rs args s))
  unfolding contract_chain
  contract_chain_step c (param i) hc g = record { valid = v; later = later_refl rs; good = (hc, tt, g); means = λ args. refl }
  contract_chain_step c (shut a) hc g = contract_chain_shut c a hc g
  contract_chain_step c (under d s) hc g = contract_chain_under c d s hc g
  contract_chain_step c (branch f ss) hc g = record { valid = v; later = later_refl rs; good = (hc, tt, g); means = λ args. refl }

-- a terminal over closed skeletons, over skeletons of which one is open, and over others
module _ (alphabet : List ℕ) (rs : List Rule) (n : ℕ) (v : Valid alphabet rs) (f : ℕ) (ss : Skeletons) (g : Goods alphabet rs n ss) (arity : Arity alphabet f (size ss)) where
  contract_terminal_closed : (slots : List ℕ) → ss ≡ shuts slots → Step alphabet rs n (contract_terminal_by rs f ss (closed slots)) (λ args. node f (sems rs args ss))
  unfolding contract_terminal_by value_of tree_in
  contract_terminal_closed slots e =
      let fit : Fits alphabet rs (length rs) (whole f slots) = (goods_shuts alphabet rs n slots (subst (Goods alphabet rs n) e g), omega (arith, ap size e, size_shuts slots)) in
      record {
        valid = append-valid alphabet rs (whole f slots) v fit;
        later = later_append rs (whole f slots);
        good = has_end rs (whole f slots);
        means = λ args. ap tree_in (value-end v (whole f slots) fit) ∙ ap (node f) (sym (ap (sems rs args) e ∙ sems_shuts rs args slots));
      }

  pierced-fits : (ls us : List ℕ) (s : Skeleton) → ss ≡ link (shuts ls) (cons s (shuts us))
      → Fits alphabet rs (length rs) (pierced f ls us) × Good alphabet rs n s
  pierced-fits ls us s e =
      let h = goods_link alphabet rs n ls (cons s (shuts us)) (subst (Goods alphabet rs n) e g) in
      ((h.0, goods_shuts alphabet rs n us h.1.1, omega (arith, ap size e, size_link ls (cons s (shuts us)), size_shuts us)), h.1.0)

  sems_single : (args : Forest) (ls us : List ℕ) (s : Skeleton) → ss ≡ link (shuts ls) (cons s (shuts us))
      → sems rs args ss ≡ join (trees_at (value_at rs) ls) (more (sem rs args s) (trees_at (value_at rs) us))
  sems_single args ls us s e =
      ap (sems rs args) e ∙ sems_link rs args ls (cons s (shuts us))
      ∙ ap (λ x. join (trees_at (value_at rs) ls) (more (sem rs args s) x)) (sems_shuts rs args us)

  plug-pierced : (ls us : List ℕ) (t : Tree) → Fits alphabet rs (length rs) (pierced f ls us)
      → plug (context_in (value_at (rs ++ (pierced f ls us ∷ [])) (length rs))) t ≡ node f (join (trees_at (value_at rs) ls) (more t (trees_at (value_at rs) us)))
  unfolding value_of context_in plug
  plug-pierced ls us t fit = ap (λ x. plug (context_in x) t) (value-end v (pierced f ls us) fit)

  contract_terminal_single : (ls us : List ℕ) (s : Skeleton) → ss ≡ link (shuts ls) (cons s (shuts us))
      → Step alphabet rs n (contract_terminal_by rs f ss (single ls s us)) (λ args. node f (sems rs args ss))
  unfolding contract_terminal_by
  contract_terminal_single ls us s e =
      let fit = pierced-fits ls us s e in
      let r = pierced f ls us in
      let l = later_append rs r in
      let p = contract_chain_step alphabet (rs ++ (r ∷ [])) n (append-valid alphabet rs r v fit.0) (length rs) s (has_end rs r) (good_later alphabet l n s fit.1) in
      record {
        valid = p.valid;
        later = later_trans l p.later;
        good = p.good;
        means = λ args. p.means args ∙ ap (plug (context_in (value_at (rs ++ (r ∷ [])) (length rs)))) (sem_later v l n args s fit.1)
            ∙ plug-pierced ls us (sem rs args s) fit.0 ∙ ap (node f) (sym (sems_single args ls us s e));
      }

  sorted-step : (x : Sort) → Sorted ss x → Step alphabet rs n (contract_terminal_by rs f ss x) (λ args. node f (sems rs args ss))
  unfolding contract_terminal_by
  sorted-step (closed slots) e = contract_terminal_closed slots e
  sorted-step (single ls s us) e = contract_terminal_single ls us s e.1
  sorted-step several e = record { valid = v; later = later_refl rs; good = (arity, e, g); means = λ args. refl }

  pub contract_terminal_step : Step alphabet rs n (contract_terminal rs f ss) (λ args. node f (sems rs args ss))
  unfolding contract_terminal
  contract_terminal_step = sorted-step (sort ss) (sort_right ss)

module _ (alphabet : List ℕ) (n : ℕ) where
  -- a terminal over what was made
  pub branch-step : (rs : List Rule) (f k : ℕ) (d : Forest → Forest) (m : Mades) → Arity alphabet f k → Steps alphabet rs n k m d
      → Step alphabet rs n (contract_terminal m.rules f m.made) (λ ts. node f (d ts))
  branch-step rs f k d m a p =
      let q = contract_terminal_step alphabet m.rules n p.valid f m.made p.good (subst (Arity alphabet f) (sym p.count) a) in
      record { valid = q.valid; later = later_trans p.later q.later; good = q.good; means = λ ts. q.means ts ∙ ap (node f) (p.means ts) }

  -- one more in front, made last
  pub cons-step : (rs : List Rule) (k : ℕ) (m : Mades) (m' : Made) (d : Forest → Tree) (ds : Forest → Forest) → Steps alphabet rs n k m ds
      → Step alphabet m.rules n m' d
      → Steps alphabet rs n (suc k) (record { rules = m'.rules; made = cons m'.made m.made }) (λ ts. more (d ts) (ds ts))
  cons-step rs k m m' d ds p q = record {
    valid = q.valid;
    later = later_trans p.later q.later;
    good = (q.good, goods_later alphabet q.later n m.made p.good);
    count = ap suc p.count;
    means = λ ts. ap₂ more (q.means ts) (sems_later p.valid q.later n ts m.made p.good ∙ p.means ts);
  }

-- an instance means the skeleton at what the arguments mean
module _ (alphabet : List ℕ) (n : ℕ) (args : Skeletons) where
  under-step : (rs : List Rule) → Valid alphabet rs → (c : ℕ) (s : Skeleton) (m : Made) → Has rs (length rs) 1 c
      → Step alphabet rs n m (λ ts. sem rs (sems rs ts args) s) → Step alphabet rs n (contract_chain m.rules c m.made) (λ ts. sem rs (sems rs ts args) (under c s))
  under-step rs v c s m h p =
      let q = contract_chain_step alphabet m.rules n p.valid c m.made (has_later p.later (length rs) (length m.rules) (omega arith) p.later.longer 1 c h) p.good in
      record {
        valid = q.valid;
        later = later_trans p.later q.later;
        good = q.good;
        means = λ ts. q.means ts ∙ ap₂ plug (ap context_in (value_later v p.later c h.below)) (p.means ts);
      }

  same_step : (rs rs' : List Rule) (s : Skeleton) (m : Made) → Valid alphabet rs → Later rs rs' → Goods alphabet rs n args → Good alphabet rs (size args) s
      → Step alphabet rs' n m (λ ts. sem rs' (sems rs' ts args) s) → Step alphabet rs' n m (λ ts. sem rs (sems rs ts args) s)
  same_step rs rs' s m v l ga g p = record {
    valid = p.valid;
    later = p.later;
    good = p.good;
    means = λ ts. p.means ts ∙ ap (λ x. sem rs' x s) (sems_later v l n ts args ga) ∙ sem_later v l (size args) (sems rs ts args) s g;
  }

  mutual
    unfolding substitute substitutes

    pub substitute-step : (s : Skeleton) (rs : List Rule) → Valid alphabet rs → Goods alphabet rs n args → Good alphabet rs (size args) s
        → Step alphabet rs n (substitute args s rs) (λ ts. sem rs (sems rs ts args) s)
    substitute-step (param i) rs v ga g = record {
      valid = v;
      later = later_refl rs;
      good = good_nth alphabet rs n args ga i g;
      means = λ ts. sem_nth rs ts args i;
    }
    substitute-step (shut a) rs v ga g = record { valid = v; later = later_refl rs; good = g; means = λ ts. refl }
    substitute-step (under c s) rs v ga g = under-step rs v c s (substitute args s rs) g.0 (substitute-step s rs v ga g.2)
    substitute-step (branch f ss) rs v ga g =
        branch-step alphabet n rs f (size ss) (λ ts. sems rs (sems rs ts args) ss) (substitutes args ss rs) g.0 (substitutes-step ss rs v ga g.2)

    substitutes-step : (ss : Skeletons) (rs : List Rule) → Valid alphabet rs → Goods alphabet rs n args → Goods alphabet rs (size args) ss
        → Steps alphabet rs n (size ss) (substitutes args ss rs) (λ ts. sems rs (sems rs ts args) ss)
    substitutes-step nil rs v ga g = record { valid = v; later = later_refl rs; good = tt; count = refl; means = λ ts. refl }
    substitutes-step (cons s ss) rs v ga g =
        let p = substitutes-step ss rs v ga g.1 in
        let m = substitutes args ss rs in
        let m' = substitute args s m.rules in
        let q = substitute-step s m.rules p.valid (goods_later alphabet p.later n args ga) (good_later alphabet p.later (size args) s g.0) in
        cons-step alphabet n rs (size ss) m m' (λ ts. sem rs (sems rs ts args) s) (λ ts. sems rs (sems rs ts args) ss) p
        (same_step rs m.rules s m' v p.later ga g.0 q)
