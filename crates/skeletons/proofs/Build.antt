-- Building the skeleton of a right side keeps the form valid, gives a good skeleton, and means the value of the right side.
use mathlib.Core.Path.{◌≡◌, refl, sym, ◌∙◌, ap, subst}
use mathlib.Core.List.{List}
use Prim.Native.Nat.{ℕ, ◌<◌}
use Rattle.terms.specs.Tree.{Tree, Forest, node, none, more, count}
use Rattle.terms.specs.Grammar.{Name, terminal, nonterminal, parameter, nothing, name, name_value, value, values}
use Rattle.terms.specs.Form.{Rule, Valid}
use Rattle.terms.proofs.Grammar.Fine.{FineName, Fine, Fines}
use Rattle.skeletons.specs.Skeleton.{Skeleton}
use Rattle.skeletons.specs.Make.{Mades, substitute, name-made, build, builds}
use Rattle.skeletons.proofs.Skeleton.{sem, sems}
use Rattle.terms.proofs.Form.Valid.{Later, later_refl, later_trans}
use Rattle.skeletons.proofs.Good.{Good, good_later, sem_later}
use Rattle.skeletons.proofs.Step.{Step, Steps, branch-step, cons-step, substitute-step}

-- the skeletons of the lower rules are good and mean what the calls give
pub record Knows (alphabet : List ℕ) (ranks : ℕ → ℕ) (i : ℕ) (sk : ℕ → Skeleton) (call : ℕ → Forest → Tree) (rs : List Rule) : Type 0 where
  pub good : (r : ℕ) → r < i → Good alphabet rs (ranks r) (sk r)
  pub means : (r : ℕ) → r < i → (ts : Forest) → sem rs ts (sk r) ≡ call r ts

module _ (alphabet : List ℕ) (ranks : ℕ → ℕ) (i : ℕ) (sk : ℕ → Skeleton) (call : ℕ → Forest → Tree) where
  pub knows_later : {rs rs' : List Rule} → Valid alphabet rs → Later rs rs' → Knows alphabet ranks i sk call rs → Knows alphabet ranks i sk call rs'
  knows_later v l w = record {
    good = λ r h. good_later alphabet l (ranks r) (sk r) (w.good r h);
    means = λ r h ts. sem_later v l (ranks r) ts (sk r) (w.good r h) ∙ w.means r h ts;
  }

  module _ (n : ℕ) where
    call_step : (r : ℕ) → r < i → (rs : List Rule) (m : Mades) (d : Forest → Forest) → Valid alphabet rs → Knows alphabet ranks i sk call rs
        → Steps alphabet rs n (ranks r) m d → Step alphabet rs n (substitute m.made (sk r) m.rules) (λ args. call r (d args))
    call_step r h rs m d v w p =
        let u = knows_later v p.later w in
        let q = substitute-step alphabet n m.made (sk r) m.rules p.valid p.good (subst (λ k. Good alphabet m.rules k (sk r)) (sym p.count) (u.good r h)) in
        record {
          valid = q.valid;
          later = later_trans p.later q.later;
          good = q.good;
          means = λ args. q.means args ∙ u.means r h (sems m.rules args m.made) ∙ ap (call r) (p.means args);
        }

    name-step : (x : Name) (k : ℕ) (rs : List Rule) (m : Mades) (d : Forest → Forest) → FineName alphabet ranks i n x k → Valid alphabet rs
        → Knows alphabet ranks i sk call rs → Steps alphabet rs n k m d → Step alphabet rs n (name-made sk x m) (λ args. name_value call args (d args) x)
    unfolding name-made
    name-step (terminal f) k rs m d e v w p = branch-step alphabet n rs f k d m e p
    name-step (nonterminal r) k rs m d e v w p = call_step r e.0 rs m d v w (subst (λ j. Steps alphabet rs n j m d) e.1 p)
    name-step (parameter j) k rs m d e v w p = record { valid = p.valid; later = p.later; good = e; means = λ args. refl }
    name-step nothing k rs m d e v w p = absurd e

    mutual
      unfolding build builds value values count

      pub build-step : (t : Tree) (rs : List Rule) → Fine alphabet ranks i n t → Valid alphabet rs → Knows alphabet ranks i sk call rs
          → Step alphabet rs n (build sk t rs) (λ args. value call args t)
      build-step (node m ts) rs e v w =
          name-step (name m) (count ts) rs (builds sk ts rs) (λ args. values call args ts) e.0 v w (builds-step ts rs e.1 v w)

      pub builds-step : (ts : Forest) (rs : List Rule) → Fines alphabet ranks i n ts → Valid alphabet rs → Knows alphabet ranks i sk call rs
          → Steps alphabet rs n (count ts) (builds sk ts rs) (λ args. values call args ts)
      builds-step none rs e v w = record { valid = v; later = later_refl rs; good = tt; count = refl; means = λ args. refl }
      builds-step (more t ts) rs e v w =
          let p = builds-step ts rs e.1 v w in
          let m = builds sk ts rs in
          cons-step alphabet n rs (count ts) m (build sk t m.rules) (λ args. value call args t) (λ args. values call args ts) p
          (build-step t m.rules e.0 p.valid (knows_later v p.later w))
