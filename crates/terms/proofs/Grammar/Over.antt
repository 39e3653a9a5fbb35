-- Trees over an alphabet: each node is a terminal of the alphabet, with as many children as its rank.
use mathlib.Core.List.{List}
use Prim.Native.Nat.{ℕ}
use lib.Dec.{T, ltb, lt→ltb}
use lib.ListN.{length}
use Rattle.terms.specs.Test.{all}
use Rattle.terms.specs.Tree.{Tree, Forest, node, none, more, count, preorder, preorders, Ranked, RankedAll}
use Rattle.terms.specs.Grammar.{terminal_rank, Arity}
use Rattle.terms.proofs.Test.{both, all_both}

abbrev mutual
  pub Over : List ℕ → Tree → Type 0
  Over alphabet (node f ts) = Arity alphabet f (count ts) × AllOver alphabet ts

  pub AllOver : List ℕ → Forest → Type 0
  AllOver alphabet none = Unit {0}
  AllOver alphabet (more t ts) = Over alphabet t × AllOver alphabet ts

module _ (alphabet : List ℕ) where
  mutual
    unfolding Ranked RankedAll

    pub over-ranked : (t : Tree) → Over alphabet t → Ranked (terminal_rank alphabet) t
    over-ranked (node f ts) p = (p.0.rank, all_over_ranked ts p.1)

    all_over_ranked : (ts : Forest) → AllOver alphabet ts → RankedAll (terminal_rank alphabet) ts
    all_over_ranked none p = tt
    all_over_ranked (more t ts) p = (over-ranked t p.0, all_over_ranked ts p.1)

  mutual
    unfolding preorder preorders all

    pub over-known : (t : Tree) → Over alphabet t → T (all (λ f. ltb f (length alphabet)) (preorder t))
    over-known (node f ts) p =
        both (ltb f (length alphabet)) (all (λ g. ltb g (length alphabet)) (preorders ts)) (lt→ltb f (length alphabet) p.0.known) (all_over_known ts p.1)

    all_over_known : (ts : Forest) → AllOver alphabet ts → T (all (λ f. ltb f (length alphabet)) (preorders ts))
    all_over_known none p = tt
    all_over_known (more t ts) p = all_both (λ f. ltb f (length alphabet)) (preorder t) (preorders ts) (over-known t p.0) (all_over_known ts p.1)
