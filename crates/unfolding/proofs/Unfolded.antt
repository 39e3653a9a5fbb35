-- Unfolding a form that derives a tree, with slices that are long enough.
use mathlib.Core.Path.{◌≡◌}
use mathlib.Core.List.{List}
use Prim.Native.Nat.{ℕ}
use lib.ListN.{length, take}
use lib.Seq.{take-append_seam}
use Rattle.terms.specs.Tree.{Tree, preorder}
use Rattle.terms.specs.FormBytes.{form_tree}
use Rattle.terms.specs.Count.{size_of}
use Rattle.terms.specs.Answer.{Answer, answered}
use Rattle.terms.specs.Calls.{unfolding_refusal}
use Rattle.unfolding.specs.Unfolding.{Unfolded}

module _ {alphabet form : List ℕ} {r : Answer ℕ} {counts' counts tree' tree : List ℕ} (u : Unfolded alphabet form r counts' counts tree' tree)
    (t : Tree) (derives : form_tree alphabet form ≡ t) (passes : unfolding_refusal alphabet form (length counts) (length tree) ≡ 0) where
  pub unfolds : r ≡ answered (size_of t)
  unfolds = rw (passes, derives) at u.answered

  pub tree-first : take (size_of t) tree' ≡ preorder t
  tree-first = rw (u.written, passes, derives) (take-append_seam (preorder t) _)
