-- What is noted once a node's children are read, and once one child more is read.
use mathlib.Core.Path.{◌≡◌, sym, ◌∙◌, ap}
use mathlib.Core.List.{List}
use Prim.Native.Nat.{ℕ, ◌+◌, ◌<◌}
use native.Mathlib.Numerals.{add-one}
use native.Mathlib.Omega.{arith}
use lib.ListN.{length, get_or, take, drop, set}
use lib.Seq.{take-suc-set}
use Rattle.terms.specs.Tree.{count}
use Rattle.terms.specs.Grammar.{terminal_rank}
use Rattle.terms.specs.Automaton.{step}
use Rattle.terms.specs.Sheet.{transitions_of}
use Rattle.terms.specs.Calls.{walk_mask}
use Rattle.transitions.specs.Step.{closed_step}
use Rattle.subtree_masks.specs.Readers.{Noted, trees_from, end_of, masks_from}
use Rattle.subtree_masks.proofs.Trees.{end_more, end_past, end-node, mask-node, masks_child, tree-there}
use Rattle.subtree_masks.proofs.Noted.{noted_more, noted-node}

module _ (alphabet automaton tree : List ℕ) (at : ℕ) where
  -- the node, whose n children are read
  pub node-read : at < length tree → (sets : List ℕ) {n end m : ℕ} {l l' : List ℕ} → at < length l' → n ≡ terminal_rank alphabet (get_or tree at 0)
      → end ≡ end_of alphabet tree (at + 1) n → Noted alphabet automaton tree (at + 1) end l l' → take n sets ≡ masks_from alphabet automaton tree (at + 1) n
      → m ≡ closed_step alphabet automaton (get_or tree at 0) sets
      → (end ≡ end_of alphabet tree at 1) × Noted alphabet automaton tree at end l (set l' at m)
  node-read there sets place rank end noted read is =
      let ends = rw rank at end ∙ sym (end-node alphabet tree at there) in
      let steps = is ∙ ap (step (transitions_of alphabet automaton) (get_or tree at 0)) (rw rank at read) ∙ sym (mask-node alphabet tree at there automaton) in
      (ends, noted-node place (rw ends (end_past alphabet tree at there)) steps noted)

  -- child j, behind those that are read
  pub child_read : (j : ℕ) → j < count (trees_from alphabet tree at) → (sets : List ℕ) {end next : ℕ} {l l' l'' : List ℕ} → j < length sets
      → end ≡ end_of alphabet tree at j → Noted alphabet automaton tree at end l l' → take j sets ≡ masks_from alphabet automaton tree at j
      → next ≡ end_of alphabet tree end 1 → Noted alphabet automaton tree end next l' l''
      → (next ≡ end_of alphabet tree at (j + 1)) × Noted alphabet automaton tree at next l l''
      × (take (j + 1) (set sets j (get_or l'' end 0)) ≡ masks_from alphabet automaton tree at (j + 1))
  child_read j counted sets {end} {next} {l} {l'} {l''} room is noted read goes child =
      let past : end < next = rw goes (end_past alphabet tree end (rw is (tree-there alphabet tree at j counted))) in
      let mask : get_or l'' end 0 ≡ walk_mask alphabet automaton (drop (end_of alphabet tree at j) tree) = rw (← is) (child.inside end (omega arith) past) in (
        goes ∙ ap (λ (e : ℕ). end_of alphabet tree e 1) is ∙ end_more alphabet tree at j,
        noted_more (omega arith) (omega arith) noted child,
        rw (masks_child alphabet tree automaton at j counted, add-one, take-suc-set sets j (get_or l'' end 0) room, mask, read),
      )
