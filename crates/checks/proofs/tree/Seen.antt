-- A pass over the nodes of a tree from the last to the first: what it has seen of the nodes from place i on, what one node adds, and what it says of the whole.
use mathlib.Core.Path.{◌≡◌}
use mathlib.Core.Bool.{Bool, true, false, and-false}
use mathlib.Core.List.{List}
use Prim.Native.Nat.{ℕ, ◌+◌, ◌-◌, ◌≤◌, ◌<◌}
use native.Mathlib.Omega.{arith}
use native.Mathlib.Numerals.{add-one}
use borrow.Author.Tests.{lt-ltb, le-ltb, le-leb, lt-leb}
use lib.Dec.{ltb, eqb}
use lib.ListN.{length, get_or, drop}
use lib.Seq.{drop-length}
use Rattle.terms.specs.Test.{all}
use Rattle.terms.specs.Tree.{exactly, taking, wholes}
use Rattle.terms.specs.Grammar.{terminal_rank}
use Rattle.terms.specs.Check.{is_tree}
use Rattle.terms.proofs.Scan.{drop-back, all_part, wholes_part}

-- the symbol is a terminal of the alphabet
abbrev known : List ℕ → ℕ → Bool
known alphabet f = ltb f (length alphabet)

-- the nodes from i on are terminals, and make so many whole trees
pub record Seen (alphabet tree : List ℕ) (i trees : ℕ) : Type 0 where
  pub terminals : all (known alphabet) (drop i tree) ≡ true
  pub whole : wholes (terminal_rank alphabet) (drop i tree) ≡ exactly trees

module _ (alphabet tree : List ℕ) where
  pub seen_none : Seen alphabet tree (length tree) 0
  unfolding all wholes
  seen_none = record { terminals = rw drop-length; whole = rw drop-length }

  pub seen_all : (i trees : ℕ) → Seen alphabet tree i trees → i ≤ 0 → is_tree alphabet tree ≡ eqb trees 1
  unfolding is_tree
  seen_all i trees s h =
      let e : i ≡ 0 = omega arith in
      let all_seen = rw e at s in
      rw (all_seen.terminals, all_seen.whole)

  -- the node before place i
  module _ (i trees : ℕ) (s : Seen alphabet tree i trees) (some : 0 < i) (inside : i ≤ length tree) where
    pub no_terminal : length alphabet ≤ get_or tree (i - 1) 0 → is_tree alphabet tree ≡ false
    unfolding is_tree all
    no_terminal h = rw (all_part (known alphabet) tree (i - 1) (rw (drop-back tree i 0 some inside, le-ltb _ _ h)))

    pub lacks_child : trees < terminal_rank alphabet (get_or tree (i - 1) 0) → is_tree alphabet tree ≡ false
    unfolding is_tree wholes taking
    lacks_child h = rw (wholes_part (terminal_rank alphabet) tree (i - 1) (rw (drop-back tree i 0 some inside, s.whole, lt-leb _ _ h)), and-false)

    pub takes_children : get_or tree (i - 1) 0 < length alphabet → terminal_rank alphabet (get_or tree (i - 1) 0) ≤ trees
        → Seen alphabet tree (i - 1) (trees - terminal_rank alphabet (get_or tree (i - 1) 0) + 1)
    unfolding all wholes taking
    takes_children h k = record {
      terminals = rw (drop-back tree i 0 some inside, lt-ltb _ _ h, s.terminals);
      whole = rw (drop-back tree i 0 some inside, s.whole, le-leb _ _ k, add-one);
    }
