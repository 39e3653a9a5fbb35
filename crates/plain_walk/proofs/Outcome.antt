-- What the walk answers and leaves once the tree is read from its root.
use mathlib.Core.Path.{◌≡◌, sym, ◌∙◌}
use mathlib.Core.List.{List}
use Prim.Native.Nat.{ℕ}
use native.Mathlib.Omega.{arith}
use lib.ListN.{length, get_or}
use Rattle.terms.specs.Answer.{answered, answer}
use Rattle.terms.specs.Calls.{lent_after, walk_refusal, walk_mask, walk_masks}
use Rattle.terms.proofs.InTurn.{answers_value, leaves_written}
use Rattle.subtree_masks.specs.Readers.{end_of, Noted}
use Rattle.subtree_masks.proofs.Passed.{walk_passed}
use Rattle.plain_walk.proofs.Whole.{some-node, whole-end, noted-whole}

pub reads : (alphabet automaton tree entry : List ℕ) → 0 ≡ walk_refusal alphabet automaton tree (length entry) → {end : ℕ} {exit : List ℕ} → length exit ≡ length entry
    → end ≡ end_of alphabet tree 0 1 → Noted alphabet automaton tree 0 end entry exit
    → (answered (get_or exit 0 0) ≡ answer (walk_refusal alphabet automaton tree (length entry)) (walk_mask alphabet automaton tree))
    × (exit ≡ lent_after (walk_refusal alphabet automaton tree (length entry)) (walk_masks alphabet automaton tree) entry)
reads alphabet automaton tree entry none kept is noted =
    let p = walk_passed alphabet automaton tree (length entry) (sym none) in
    let whole = rw (is ∙ whole-end _ _ p.tree_passes) at noted in (
      rw (answers_value _ (walk_mask alphabet automaton tree) none, whole.inside 0 (omega arith) (some-node _ _ p.tree_passes)),
      rw (leaves_written _ (walk_masks alphabet automaton tree) entry none) (noted-whole p.fits kept whole),
    )
