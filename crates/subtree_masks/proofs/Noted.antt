-- Masks noted in a lent slice, subtree by subtree.
use mathlib.Core.Path.{◌≡◌, refl, ◌∙◌}
use mathlib.Core.List.{List}
use Prim.Native.Nat.{ℕ, ◌+◌, ◌≤◌, ◌<◌}
use native.Nat.{ℕᴺ_discrete}
use native.Mathlib.Omega.{arith}
use native.Mathlib.Decide.{dec_lt}
use lib.ListN.{length, get_or, drop, set}
use lib.Seq.{get_or-set_same, get_or-set_other}
use Rattle.terms.specs.Calls.{walk_mask}
use Rattle.subtree_masks.specs.Readers.{Noted}

module _ {alphabet automaton tree : List ℕ} where
  pub noted-none : (at : ℕ) (l : List ℕ) → Noted alphabet automaton tree at at l l
  noted-none at l = record { front = λ i h. refl; inside = λ i h k. absurd (omega arith); behind = λ i h. refl }

  -- the subtrees up to a middle, and then those behind it
  pub noted_more : {at middle end : ℕ} {l l' l'' : List ℕ} → at ≤ middle → middle ≤ end
      → Noted alphabet automaton tree at middle l l' → Noted alphabet automaton tree middle end l' l'' → Noted alphabet automaton tree at end l l''
  noted_more {at} {middle} {end} {l} {l'} {l''} from to first next = record {
    front = λ i h. next.front i (omega arith) ∙ first.front i h;
    inside = λ i h k. go i h k (dec_lt i middle);
    behind = λ i h. next.behind i h ∙ first.behind i (omega arith);
  }
    where
      go : (i : ℕ) → at ≤ i → i < end → Dec (i < middle) → get_or l'' i 0 ≡ walk_mask alphabet automaton (drop i tree)
      go i h k (yes b) = next.front i b ∙ first.inside i h b
      go i h k (no b) = next.inside i (omega arith) k

  -- a node, once its children are noted
  pub noted-node : {at end m : ℕ} {l l' : List ℕ} → at < length l' → at < end → m ≡ walk_mask alphabet automaton (drop at tree) → Noted alphabet automaton tree (at + 1) end l l' → Noted alphabet automaton tree at end l (set l' at m)
  noted-node {at} {end} {m} {l} {l'} there from is children = record {
    front = λ i h. get_or-set_other l' at i m 0 (λ e. omega arith) ∙ children.front i (omega arith);
    inside = λ i h k. go i h k (ℕᴺ_discrete i at);
    behind = λ i h. get_or-set_other l' at i m 0 (λ e. omega arith) ∙ children.behind i h;
  }
    where
      go : (i : ℕ) → at ≤ i → i < end → Dec (i ≡ at) → get_or (set l' at m) i 0 ≡ walk_mask alphabet automaton (drop i tree)
      go i h k (yes e) = rw e (get_or-set_same l' at m 0 there ∙ is)
      go i h k (no n) = get_or-set_other l' at i m 0 n ∙ children.inside i (omega arith) k
