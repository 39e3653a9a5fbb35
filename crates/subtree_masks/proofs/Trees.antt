-- The trees that stand behind a position of a preorder tree: where the first ones end, which follow them, and their masks.
use mathlib.Core.Path.{◌≡◌, refl, sym, ◌∙◌, ap}
use mathlib.Core.List.{List, [], ◌∷◌, ◌++◌, append-nil}
use Prim.Native.Nat.{ℕ, zero, suc, ◌+◌, ◌≤◌, ◌<◌}
use native.Mathlib.Nat.{zero-add, suc-add}
use native.Mathlib.Numerals.{add-one}
use native.Mathlib.Omega.{arith}
use native.Mathlib.Decide.{dec_lt}
use lib.ListN.{length, get_or, drop, length-append, drop_of_length-le}
use lib.Seq.{drop-nil, drop-cons, drop-drop}
use Rattle.terms.specs.Tree.{Forest, none, more, preorder, preorders, count, firsts, rest, pick, forest_of, tree_of}
use Rattle.terms.specs.Grammar.{terminal_rank}
use Rattle.terms.specs.Automaton.{Transition, step, mask, masks}
use Rattle.terms.specs.Sheet.{transitions_of}
use Rattle.terms.specs.Calls.{walk_mask}
use Rattle.terms.proofs.Tree.Forest.{count-rest}
use Rattle.subtree_masks.specs.Readers.{trees_from, end_of, masks_from}

-- Forests taken apart in two steps.

rest-none : (n : ℕ) → rest n none ≡ none
unfolding rest
rest-none zero = refl
rest-none (suc n) = refl

firsts-none : (n : ℕ) → firsts n none ≡ none
unfolding firsts
firsts-none zero = refl
firsts-none (suc n) = refl

rest-rest : (m n : ℕ) (ts : Forest) → rest (m + n) ts ≡ rest n (rest m ts)
unfolding rest
rest-rest zero n ts = rw zero-add
rest-rest (suc m) n none = simp rest-none
rest-rest (suc m) n (more t ts) = rw suc-add (rest-rest m n ts)

symbols_firsts : (m n : ℕ) (ts : Forest)
    → length (preorders (firsts (m + n) ts)) ≡ length (preorders (firsts m ts)) + length (preorders (firsts n (rest m ts)))
unfolding firsts rest preorders
symbols_firsts zero n ts = simp zero-add
symbols_firsts (suc m) n none = rw (suc-add, firsts-none, zero-add)
symbols_firsts (suc m) n (more t ts) = rw suc-add (simp length-append (omega (arith, symbols_firsts m n ts)))

-- the masks of one tree more
masks-more : (δ : List Transition) (n : ℕ) (ts : Forest) → n < count ts → masks δ (firsts (suc n) ts) ≡ masks δ (firsts n ts) ++ (mask δ (pick (rest n ts) 0) ∷ [])
unfolding masks firsts rest pick count
masks-more δ n none h = absurd (omega arith)
masks-more δ zero (more t ts) h = refl
masks-more δ (suc n) (more t ts) h = ap (λ (ms : List ℕ). mask δ t ∷ ms) (masks-more δ n ts (omega arith))

-- Trees read from symbols: the symbols of the first n of them stand in front, and the others are read from what follows.

module _ (rank : ℕ → ℕ) where
  forest_behind : (fs : List ℕ) (n : ℕ) → forest_of rank (drop (length (preorders (firsts n (forest_of rank fs)))) fs) ≡ rest n (forest_of rank fs)
  unfolding forest_of preorders preorder firsts rest
  forest_behind [] n = rw (drop-nil, rest-none)
  forest_behind (f ∷ fs) zero = refl
  forest_behind (f ∷ fs) (suc n) =
      let ts = forest_of rank fs in
      let many : length (preorders (firsts (rank f) ts) ++ preorders (firsts n (rest (rank f) ts))) ≡ length (preorders (firsts (rank f + n) ts)) =
      length-append (preorders (firsts (rank f) ts)) (preorders (firsts n (rest (rank f) ts))) ∙ sym (symbols_firsts (rank f) n ts) in
      rw many (forest_behind fs (rank f + n) ∙ rest-rest (rank f) n ts)

  -- a symbol and its children
  symbols_node : (f : ℕ) (fs : List ℕ) → length (preorders (firsts 1 (forest_of rank (f ∷ fs)))) ≡ suc (length (preorders (firsts (rank f) (forest_of rank fs))))
  unfolding forest_of firsts preorders preorder
  symbols_node f fs = ap (λ (gs : List ℕ). suc (length gs)) (append-nil (preorders (firsts (rank f) (forest_of rank fs))))

-- Positions of a preorder tree.

module _ (alphabet tree : List ℕ) where
  -- behind the first n trees stand the others
  trees_behind : (at n : ℕ) → trees_from alphabet tree (end_of alphabet tree at n) ≡ rest n (trees_from alphabet tree at)
  trees_behind at n = rw (← drop-drop) (forest_behind (terminal_rank alphabet) (drop at tree) n)

  pub end_more : (at n : ℕ) → end_of alphabet tree (end_of alphabet tree at n) 1 ≡ end_of alphabet tree at (n + 1)
  end_more at n = rw (trees_behind at n) (omega (arith, symbols_firsts n 1 (trees_from alphabet tree at)))

  -- no tree stands behind the end
  none-behind : (at : ℕ) → length tree ≤ at → count (trees_from alphabet tree at) ≡ 0
  unfolding forest_of count
  none-behind at past = rw (drop_of_length-le tree past)

  -- a tree that is there has a first symbol
  pub tree-there : (at n : ℕ) → n < count (trees_from alphabet tree at) → end_of alphabet tree at n < length tree
  tree-there at n h = go (dec_lt (end_of alphabet tree at n) (length tree))
    where
      go : Dec (end_of alphabet tree at n < length tree) → end_of alphabet tree at n < length tree
      go (yes l) = l
      go (no l) =
          let past : length tree ≤ end_of alphabet tree at n = omega arith in
          absurd (omega (arith, none-behind _ past, ap count (trees_behind at n), count-rest n (trees_from alphabet tree at)))

  -- the node at a position, and its children, which stand behind it
  module _ (at : ℕ) (there : at < length tree) where
    abbrev symbol : ℕ
    symbol = get_or tree at 0

    abbrev symbol_rank : ℕ
    symbol_rank = terminal_rank alphabet symbol

    pub end-node : end_of alphabet tree at 1 ≡ end_of alphabet tree (at + 1) symbol_rank
    end-node = rw (drop-cons tree at 0 there, add-one) (omega (arith, symbols_node (terminal_rank alphabet) symbol (drop (suc at) tree)))

    module _ (automaton : List ℕ) where
      pub mask-node : walk_mask alphabet automaton (drop at tree) ≡ step (transitions_of alphabet automaton) symbol (masks_from alphabet automaton tree (at + 1) symbol_rank)
      unfolding walk_mask tree_of forest_of pick mask
      mask-node = rw (drop-cons tree at 0 there, add-one)

  -- a node has a symbol
  pub end_past : (at : ℕ) → at < length tree → at < end_of alphabet tree at 1
  end_past at there = omega (arith, end-node at there)

  -- the masks of one child more
  pub masks_child : (automaton : List ℕ) (at n : ℕ) → n < count (trees_from alphabet tree at)
      → masks_from alphabet automaton tree at (n + 1) ≡ masks_from alphabet automaton tree at n ++ (walk_mask alphabet automaton (drop (end_of alphabet tree at n) tree) ∷ [])
  unfolding walk_mask tree_of
  masks_child automaton at n h = rw (add-one, trees_behind at n) (masks-more (transitions_of alphabet automaton) n (trees_from alphabet tree at) h)
