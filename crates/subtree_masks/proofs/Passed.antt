-- What the walk lets through, and what its readers may use of it.
use mathlib.Core.Path.{◌≡◌, refl, sym, ◌∙◌}
use mathlib.Core.Bool.{Bool, true, false}
use mathlib.Core.List.{List, ◌∷◌}
use Prim.Native.Nat.{ℕ, suc, ◌+◌, ◌≤◌, ◌<◌}
use native.Mathlib.Numerals.{add-one}
use native.Mathlib.Omega.{arith}
use native.Mathlib.Decide.{dec_le}
use lib.Dec.{ltb}
use lib.ListN.{length, get_or, drop}
use lib.Seq.{drop-cons}
use borrow.Author.Tests.{ltb-true, ltb-false, lt-leb}
use Rattle.terms.specs.Test.{all}
use Rattle.terms.specs.Tree.{count, forest_of, Wholes, exactly, lacking, taking, wholes}
use Rattle.terms.specs.Grammar.{terminal_rank}
use Rattle.terms.specs.Check.{is_one, is_tree, alphabet_refusal, automaton_refusal, tree_refusal}
use Rattle.terms.specs.Calls.{most_walked, walk_refusal}
use Rattle.terms.proofs.Test.{is_true, of_true, both_0, both_1}
use Rattle.terms.proofs.Refusal.{none_before, no_row}
use Rattle.terms.proofs.Scan.{all_part, wholes_part}
use Rattle.terms.proofs.Tree.Whole.{read}
use Rattle.terms.proofs.Sheet.Grammar.{one_whole}
use Rattle.terms.proofs.Sheet.Passed.{alphabet_passed, tree_passed}
use Rattle.terms.proofs.Form.Bytes.{rank_le}
use Rattle.subtree_masks.specs.Readers.{trees_from}

-- what the walk lets through
pub record WalkPassed (alphabet automaton tree : List ℕ) (room : ℕ) : Type 0 where
  pub alphabet_passes : alphabet_refusal alphabet ≡ 0
  pub automaton_passes : automaton_refusal alphabet automaton ≡ 0
  pub tree_passes : tree_refusal most_walked alphabet tree ≡ 0
  pub fits : length tree ≤ room

pub walk_passed : (alphabet automaton tree : List ℕ) (room : ℕ) → walk_refusal alphabet automaton tree room ≡ 0 → WalkPassed alphabet automaton tree room
unfolding walk_refusal
walk_passed alphabet automaton tree room e =
    let (a, r) = none_before (alphabet_refusal alphabet) _ e in
    let (b, s) = none_before (automaton_refusal alphabet automaton) _ r in
    let (c, t) = none_before (tree_refusal most_walked alphabet tree) _ s in
    record { alphabet_passes = a; automaton_passes = b; tree_passes = c; fits = ltb-false room (length tree) (no_row 18 (ltb room (length tree)) 0 t).0 }

pub rank-few : (alphabet : List ℕ) → alphabet_refusal alphabet ≡ 0 → (f : ℕ) → terminal_rank alphabet f ≤ 4
rank-few alphabet passes f = rank_le alphabet (alphabet_passed alphabet passes).ranks f

-- a symbol takes no more trees than stand behind it
taken-there : (rank : ℕ → ℕ) (f : ℕ) (fs : List ℕ) → (wholes rank (f ∷ fs) ≡ lacking → ⊥) → rank f ≤ count (forest_of rank fs)
unfolding wholes taking
taken-there rank f fs some = go (wholes rank fs) refl
  where
    enough : (n : ℕ) → wholes rank fs ≡ exactly n → Dec (rank f ≤ n) → rank f ≤ count (forest_of rank fs)
    enough n e (yes l) = rw (read rank fs n e).trees l
    enough n e (no l) = absurd (some (rw (e, lt-leb (rank f) n (omega arith))))

    go : (w : Wholes) → wholes rank fs ≡ w → rank f ≤ count (forest_of rank fs)
    go (exactly n) e = enough n e (dec_le (rank f) n)
    go lacking e = absurd (some (rw e))

-- a tree that passed its check
module _ (alphabet tree : List ℕ) (passes : tree_refusal most_walked alphabet tree ≡ 0) where
  -- it is of terminals, and whole
  pub known-whole : (all (λ f. ltb f (length alphabet)) tree ≡ true) × (wholes (terminal_rank alphabet) tree ≡ exactly 1)
  unfolding is_tree
  known-whole =
      let one = (tree_passed most_walked alphabet tree passes).one in
      let terminals = all (λ f. ltb f (length alphabet)) tree in
      let is_whole = is_one (wholes (terminal_rank alphabet) tree) in
      (is_true terminals (both_0 terminals is_whole one), one_whole _ (is_true is_whole (both_1 terminals is_whole one)))

  module _ (at : ℕ) (there : at < length tree) where
    -- a node is a terminal
    pub node-known : get_or tree at 0 < length alphabet
    unfolding all
    node-known = go (ltb (get_or tree at 0) (length alphabet)) refl
      where
        go : (b : Bool) → ltb (get_or tree at 0) (length alphabet) ≡ b → get_or tree at 0 < length alphabet
        go true e = ltb-true _ _ e
        go false e = absurd (of_true false (sym (all_part (λ f. ltb f (length alphabet)) tree at (rw (drop-cons tree at 0 there, e))) ∙ known-whole.0))

    -- and its children are there
    pub children-there : terminal_rank alphabet (get_or tree at 0) ≤ count (trees_from alphabet tree (at + 1))
    children-there = rw add-one (taken-there (terminal_rank alphabet) (get_or tree at 0) (drop (suc at) tree) (λ e. lacks (drop-cons tree at 0 there) e))
      where
        lacks : {fs : List ℕ} → drop at tree ≡ fs → wholes (terminal_rank alphabet) fs ≡ lacking → ⊥
        lacks is e =
            let whole = wholes_part (terminal_rank alphabet) tree at (rw is e) in
            let one = known-whole.1 in
            let z : ◌≡◌ {A = ℕ} 0 1 = cc in
            omega arith
