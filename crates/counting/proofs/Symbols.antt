-- The own symbols of what a rule derives, in preorder: those before its open place and those after it. A tree has all its symbols before.
use mathlib.Core.Path.{◌≡◌, refl, sym, ◌∙◌, ap, ap₂}
use mathlib.Core.List.{List, [], ◌∷◌, ◌++◌, append-nil}
use Prim.Native.Nat.{ℕ, ◌+◌, ◌≤◌}
use native.Mathlib.Omega.{arith}
use lib.ListN.{length, length-append}
use Rattle.terms.specs.Tree.{preorder, preorders}
use Rattle.terms.specs.Context.{before, after}
use Rattle.terms.specs.Form.{Rule, Value, closed, context, tree_in, context_in, trees_at, value_at, Has, Slots, Valid}
use Rattle.terms.specs.Count.{own_nodes, nodes_before}
use Rattle.terms.proofs.Form.Value.{derives-tree, derives-context}
use Rattle.counting.specs.Private.Symbols.{symbols_before, symbols_after, own_symbols, symbols_at}

pub own_parts : (x : Value) → own_symbols x ≡ symbols_before x ++ symbols_after x
own_parts (closed t) = sym (append-nil (preorder t))
own_parts (context c) = refl

-- the own nodes are the own symbols

pub count_symbols : (x : Value) → length (own_symbols x) ≡ own_nodes x
count_symbols (closed t) = refl
count_symbols (context c) = refl

pub count_parts : (x : Value) → own_nodes x ≡ length (symbols_before x) + length (symbols_after x)
count_parts x = sym (count_symbols x) ∙ ap length (own_parts x) ∙ length-append (symbols_before x) (symbols_after x)

-- a value in the open place of another
abbrev pub around : Value → Value → List ℕ
around x y = symbols_before x ++ (own_symbols y ++ symbols_after x)

module _ {alphabet : List ℕ} {rs : List Rule} (v : Valid alphabet rs) (n : ℕ) (l : n ≤ length rs) where
  -- a rule of rank 0 has all its symbols before
  module _ (a : ℕ) (p : Has rs n 0 a) where
    tree : value_at rs a ≡ closed (tree_in (value_at rs a))
    tree = derives-tree v a (omega (arith, p.below)) p.rank

    pub tree_symbols : preorder (tree_in (value_at rs a)) ≡ own_symbols (value_at rs a)
    tree_symbols = sym (ap own_symbols tree)

    pub tree-before : own_symbols (value_at rs a) ≡ symbols_before (value_at rs a)
    tree-before = ap own_symbols tree ∙ sym (ap symbols_before tree)

    pub tree-after : symbols_after (value_at rs a) ≡ []
    tree-after = ap symbols_after tree

  -- a rule of rank 1 has those of its context
  module _ (a : ℕ) (p : Has rs n 1 a) where
    open_place : value_at rs a ≡ context (context_in (value_at rs a))
    open_place = derives-context v a (omega (arith, p.below)) p.rank

    pub context-before : before (context_in (value_at rs a)) ≡ symbols_before (value_at rs a)
    context-before = sym (ap symbols_before open_place)

    pub context-after : after (context_in (value_at rs a)) ≡ symbols_after (value_at rs a)
    context-after = sym (ap symbols_after open_place)

    pub nodes-before : nodes_before (value_at rs a) ≡ length (symbols_before (value_at rs a))
    nodes-before = ap nodes_before open_place ∙ ap length context-before

  pub trees_symbols : (slots : List ℕ) → Slots rs n slots → preorders (trees_at (value_at rs) slots) ≡ symbols_at (value_at rs) slots
  unfolding preorders trees_at
  trees_symbols [] p = refl
  trees_symbols (a ∷ slots) p = ap₂ ◌++◌ (tree_symbols a p.0) (trees_symbols slots p.1)
