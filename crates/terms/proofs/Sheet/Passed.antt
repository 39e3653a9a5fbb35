-- What the refusals 1 to 16 let through, part by part.
use mathlib.Core.Path.{◌≡◌}
use mathlib.Core.Bool.{not}
use mathlib.Core.List.{List}
use Prim.Native.Nat.{ℕ, ◌≤◌}
use lib.Dec.{T, leb, ltb}
use lib.ListN.{length}
use borrow.Author.Tests.{ltb-false, not-false}
use Rattle.terms.specs.Test.{all}
use Rattle.terms.specs.Refusal.{outside}
use Rattle.terms.specs.Grammar.{Proper}
use Rattle.terms.specs.Automaton.{Small}
use Rattle.terms.specs.Sheet.{body, alphabet_of, rules_of, automaton_of, transitions_of}
use Rattle.terms.specs.Check.{is_tree, tree_refusal, alphabet_refusal, rules_refusal, automaton_refusal, joins, sheet_refusal}
use Rattle.terms.proofs.Test.{of_true, or_false}
use Rattle.terms.proofs.Refusal.{none_before, no_row}
use Rattle.terms.proofs.Sheet.Grammar.{rules_passed}
use Rattle.terms.proofs.Sheet.Automaton.{automaton_passed, automaton_small}

-- an alphabet that passes 3 and 4
pub record AlphabetPassed (alphabet : List ℕ) : Type 0 where
  pub some : 1 ≤ length alphabet
  pub few : length alphabet ≤ 32
  pub ranks : T (all (λ rank. leb rank 4) alphabet)

pub alphabet_passed : (alphabet : List ℕ) → alphabet_refusal alphabet ≡ 0 → AlphabetPassed alphabet
unfolding alphabet_refusal
alphabet_passed alphabet e =
    let low = all (λ rank. leb rank 4) alphabet in
    let (e3, r3) = no_row 2 (outside 1 32 (length alphabet)) _ e in
    let e4 = (no_row 3 (not low) _ r3).0 in
    let (some, few) = or_false (ltb (length alphabet) 1) (ltb 32 (length alphabet)) e3 in
    record { some = ltb-false _ _ some; few = ltb-false _ _ few; ranks = of_true low (not-false _ e4) }

-- a preorder tree that passes 22 and 23
pub record TreePassed (most : ℕ) (alphabet tree : List ℕ) : Type 0 where
  pub short : length tree ≤ most
  pub one : T (is_tree alphabet tree)

pub tree_passed : (most : ℕ) (alphabet tree : List ℕ) → tree_refusal most alphabet tree ≡ 0 → TreePassed most alphabet tree
unfolding tree_refusal
tree_passed most alphabet tree e =
    let (e22, r22) = no_row 21 (ltb most (length tree)) _ e in
    let e23 = (no_row 22 (not (is_tree alphabet tree)) _ r22).0 in
    record { short = ltb-false most (length tree) e22; one = of_true (is_tree alphabet tree) (not-false _ e23) }

-- a sheet that passes 1 to 16
pub record SheetPassed (s : List ℕ) : Type 0 where
  pub long : 12 ≤ length s
  pub short : length s ≤ 1832
  pub joined : T (joins s)
  pub alphabet : alphabet_refusal (alphabet_of s) ≡ 0
  pub rules : rules_refusal (alphabet_of s) (body s 1) ≡ 0
  pub automaton : automaton_refusal (alphabet_of s) (automaton_of s) ≡ 0

pub sheet_passed : (s : List ℕ) → sheet_refusal s ≡ 0 → SheetPassed s
unfolding sheet_refusal
sheet_passed s e =
    let (e1, r1) = no_row 0 (outside 12 1832 (length s)) _ e in
    let (e2, r2) = no_row 1 (not (joins s)) _ r1 in
    let (e3, r3) = none_before (alphabet_refusal (alphabet_of s)) _ r2 in
    let (e5, r5) = none_before (rules_refusal (alphabet_of s) (body s 1)) _ r3 in
    let e14 = (none_before (automaton_refusal (alphabet_of s) (automaton_of s)) _ r5).0 in
    let (long, short) = or_false (ltb (length s) 12) (ltb 1832 (length s)) e1 in
    record {
      long = ltb-false _ _ long;
      short = ltb-false _ _ short;
      joined = of_true (joins s) (not-false _ e2);
      alphabet = e3;
      rules = e5;
      automaton = e14;
    }

-- its rules are a proper grammar, and its transitions give states below 8
pub sheet-proper : (s : List ℕ) → sheet_refusal s ≡ 0 → Proper (alphabet_of s) (rules_of s)
unfolding rules_of
sheet-proper s e = (rules_passed (alphabet_of s) (body s 1) (sheet_passed s e).rules).proper

pub sheet_small : (s : List ℕ) → sheet_refusal s ≡ 0 → Small (transitions_of (alphabet_of s) (automaton_of s))
sheet_small s e = automaton_small (alphabet_of s) (automaton_of s) (automaton_passed (alphabet_of s) (automaton_of s) (sheet_passed s e).automaton)
