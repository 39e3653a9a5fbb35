-- One turn of the pass over the nodes of a right side, for code that keeps the flags on a stack: what a turn writes and puts on the stack, and how long the stack is.
use mathlib.Core.Path.{◌≡◌, sym, ◌∙◌, ap}
use mathlib.Core.Bool.{Bool, true, false, cond, ◌&&◌}
use mathlib.Core.List.{List, [], ◌∷◌, ◌++◌, append_assoc, append-nil}
use Prim.Native.Nat.{ℕ, ◌≤◌}
use native.Mathlib.Omega.{arith}
use lib.ListN.{length, replicate, length-append, length-replicate}
use Rattle.terms.specs.Tree.{exactly, wholes}
use Rattle.terms.specs.Grammar.{name, Rule, rank_in}
use Rattle.terms.proofs.Tree.Whole.{taken}
use Rattle.cleaning_terms.specs.Cleaning.{keeps, stays, sift}
use Rattle.cleaning_terms.proofs.Trees.{length-keeps}

module _ (alphabet : List ℕ) (sifted : List Rule) where
  -- the flags of the children of a node m whose flag is b
  abbrev pub child_flags : Bool → ℕ → List Bool
  child_flags true m = keeps alphabet sifted (name m)
  child_flags false m = replicate (rank_in alphabet sifted m) false

  pub length-children : (b : Bool) (m : ℕ) → length (child_flags b m) ≡ rank_in alphabet sifted m
  unfolding rank_in
  length-children true m = length-keeps alphabet sifted (name m)
  length-children false m = length-replicate (rank_in alphabet sifted m) false

  -- a turn writes the node where its flag is true and it stays
  pub sift-turn : (written : List ℕ) (b : Bool) (flags : List Bool) (m : ℕ) (ms : List ℕ)
      → written ++ sift alphabet sifted (b ∷ flags) (m ∷ ms)
      ≡ (written ++ cond (b && stays sifted (name m)) (m ∷ []) []) ++ sift alphabet sifted (child_flags b m ++ flags) ms
  unfolding sift
  sift-turn written true flags m ms = go (stays sifted (name m)) (sift alphabet sifted (keeps alphabet sifted (name m) ++ flags) ms)
    where
      go : (s : Bool) (behind : List ℕ) → written ++ cond s (m ∷ behind) behind ≡ (written ++ cond s (m ∷ []) []) ++ behind
      go true behind = sym (append_assoc written (m ∷ []) behind)
      go false behind = ap (λ (l : List ℕ). l ++ behind) (sym (append-nil written))
  sift-turn written false flags m ms = ap (λ (l : List ℕ). l ++ sift alphabet sifted (replicate (rank_in alphabet sifted m) false ++ flags) ms) (sym (append-nil written))

-- There is one flag for each tree that is still to come, so at most one for each node that is.

pub flags_next : (rank : ℕ → ℕ) (b : Bool) (children flags : List Bool) (m : ℕ) (ms : List ℕ) → wholes rank (m ∷ ms) ≡ exactly (length (b ∷ flags))
    → length children ≡ rank m → wholes rank ms ≡ exactly (length (children ++ flags))
unfolding wholes
flags_next rank b children flags m ms e l =
    let t = taken (rank m) (length (b ∷ flags)) (wholes rank ms) e in
    t.was ∙ ap exactly (omega (arith, t.enough, t.left, length-append children flags))

pub flags_few : (rank : ℕ → ℕ) (ms : List ℕ) (n : ℕ) → wholes rank ms ≡ exactly n → n ≤ length ms
unfolding wholes
flags_few rank [] n e = let q : 0 ≡ n = cc in omega arith
flags_few rank (m ∷ ms) n e =
    let t = taken (rank m) n (wholes rank ms) e in
    omega (arith, t.left, flags_few rank ms t.trees t.was)
