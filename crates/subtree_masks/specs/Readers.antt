-- What the two readers, which call each other, ask and leave (document 01, "Plain walk").
use Rattle.std.specs.Prelude.{◌≡◌, List, ℕ, ◌+◌, ◌≤◌, ◌<◌, length, get_or, drop}
use Rattle.terms.specs.Tree.{Forest, preorders, firsts, forest_of}
use Rattle.terms.specs.Grammar.{terminal_rank}
use Rattle.terms.specs.Automaton.{masks}
use Rattle.terms.specs.Sheet.{transitions_of}
use Rattle.terms.specs.Calls.{walk_mask}

-- the trees that stand from a position of a preorder tree on, one behind the other (01 Plain walk)
abbrev pub trees_from : List ℕ → List ℕ → ℕ → Forest
trees_from alphabet tree at = forest_of (terminal_rank alphabet) (drop at tree)

-- the position behind the first n of these trees (01 Plain walk)
abbrev pub end_of : List ℕ → List ℕ → ℕ → ℕ → ℕ
end_of alphabet tree at n = at + length (preorders (firsts n (trees_from alphabet tree at)))

-- the masks of the first n of these trees (01 Plain walk)
abbrev pub masks_from : List ℕ → List ℕ → List ℕ → ℕ → ℕ → List ℕ
masks_from alphabet automaton tree at n = masks (transitions_of alphabet automaton) (firsts n (trees_from alphabet tree at))

-- a lent slice before and after the subtrees from `at` to `end` were read: each position among them has its subtree's mask, and the others are kept (01 Plain walk)
pub record Noted (alphabet automaton tree : List ℕ) (at end : ℕ) (before after : List ℕ) : Type 0 where
  pub front : (i : ℕ) → i < at → get_or after i 0 ≡ get_or before i 0
  pub inside : (i : ℕ) → at ≤ i → i < end → get_or after i 0 ≡ walk_mask alphabet automaton (drop i tree)
  pub behind : (i : ℕ) → end ≤ i → get_or after i 0 ≡ get_or before i 0
