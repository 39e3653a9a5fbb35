-- The whole tree: that it has a node, where it ends, and the slice in which all its masks are noted.
use mathlib.Core.Path.{◌≡◌, sym, ◌∙◌, ap}
use mathlib.Core.List.{List, [], ◌∷◌, ◌++◌, append-nil}
use Prim.Native.Nat.{ℕ, ◌+◌, ◌-◌, ◌≤◌, ◌<◌}
use native.Mathlib.Omega.{arith}
use native.Mathlib.Decide.{dec_lt}
use lib.ListN.{length, get_or, drop, length-append, length-drop, get_or-append}
use lib.Seq.{get_or-append-add, get_or-drop, ext_get_or}
use Rattle.terms.specs.Tree.{preorders, firsts, exactly, wholes}
use Rattle.terms.specs.Grammar.{terminal_rank}
use Rattle.terms.specs.Check.{tree_refusal}
use Rattle.terms.specs.Calls.{most_walked, walk_mask, walk_masks}
use Rattle.terms.proofs.Tabulate.{length-tabulate, get_d_tabulate}
use Rattle.terms.proofs.Tree.Whole.{forest_is_tree, preorder-tree}
use Rattle.subtree_masks.specs.Readers.{Noted, end_of}
use Rattle.subtree_masks.proofs.Passed.{known-whole}

-- no symbols make no tree
whole-some : (rank : ℕ → ℕ) (fs : List ℕ) → wholes rank fs ≡ exactly 1 → 0 < length fs
unfolding wholes
whole-some rank [] e = absurd (let z : ◌≡◌ {A = ℕ} 0 1 = cc in omega arith)
whole-some rank (f ∷ fs) e = omega arith

-- a tree that passed its check
module _ (alphabet tree : List ℕ) (passes : tree_refusal most_walked alphabet tree ≡ 0) where
  -- it has a node, and ends where the symbols end
  pub some-node : 0 < length tree
  some-node = whole-some (terminal_rank alphabet) tree (known-whole alphabet tree passes).1

  pub whole-end : end_of alphabet tree 0 1 ≡ length tree
  unfolding firsts preorders
  whole-end =
      let rank = terminal_rank alphabet in
      rw (forest_is_tree rank tree (known-whole alphabet tree passes).1, append-nil, preorder-tree rank tree (known-whole alphabet tree passes).1) (omega arith)

length-masks : (alphabet automaton tree : List ℕ) → length (walk_masks alphabet automaton tree) ≡ length tree
unfolding walk_masks
length-masks alphabet automaton tree = length-tabulate (length tree) (λ i. walk_mask alphabet automaton (drop i tree))

mask_at : (alphabet automaton tree : List ℕ) (i : ℕ) → i < length tree → get_or (walk_masks alphabet automaton tree) i 0 ≡ walk_mask alphabet automaton (drop i tree)
unfolding walk_masks
mask_at alphabet automaton tree i h = get_d_tabulate (length tree) (λ j. walk_mask alphabet automaton (drop j tree)) 0 i h

-- what stands behind the first n of a list is kept where they are replaced
kept-behind : (ms l : List ℕ) (n i : ℕ) → length ms ≡ n → n ≤ i → get_or (ms ++ drop n l) i 0 ≡ get_or l i 0
kept-behind ms l n i e h =
    let there : i ≡ length ms + (i - n) = omega arith in
    let place : n + (i - n) ≡ i = omega arith in
    ap (λ (j : ℕ). get_or (ms ++ drop n l) j 0) there ∙ get_or-append-add ms (drop n l) (i - n) 0 ∙ get_or-drop n l (i - n) 0 ∙ ap (λ (j : ℕ). get_or l j 0) place

module _ {alphabet automaton tree : List ℕ} where
  -- the whole tree
  pub noted-whole : {l l' : List ℕ} → length tree ≤ length l → length l' ≡ length l → Noted alphabet automaton tree 0 (length tree) l l'
      → l' ≡ walk_masks alphabet automaton tree ++ drop (length (walk_masks alphabet automaton tree)) l
  noted-whole {l} {l'} room kept noted =
      rw many (ext_get_or 0 l' (ms ++ drop (length tree) l) (kept ∙ simp (length-append, length-drop, many) (omega arith)) (λ i h. go i (dec_lt i (length tree))))
    where
      ms : List ℕ
      ms = walk_masks alphabet automaton tree

      many : length ms ≡ length tree
      many = length-masks alphabet automaton tree

      go : (i : ℕ) → Dec (i < length tree) → get_or l' i 0 ≡ get_or (ms ++ drop (length tree) l) i 0
      go i (yes b) = noted.inside i (omega arith) b ∙ sym (get_or-append ms (drop (length tree) l) 0 i (omega (arith, many)) ∙ mask_at alphabet automaton tree i b)
      go i (no b) = noted.behind i (omega arith) ∙ sym (kept-behind ms l (length tree) i many (omega arith))
