-- A practice sheet passes 1 to 16, and its tree is the one that the draws describe.
use mathlib.Core.Path.{◌≡◌, refl, ◌∙◌, ap}
use mathlib.Core.List.{List}
use Prim.Native.Nat.{ℕ, ◌+◌, ◌≤◌, ◌<◌}
use native.Mathlib.Omega.{arith}
use lib.Dec.{ltb}
use lib.ListN.{length}
use borrow.Author.Tests.{ltb-false}
use Rattle.terms.specs.Test.{all}
use Rattle.terms.specs.Refusal.{outside}
use Rattle.terms.specs.Sheet.{RulesBody, rules_body, rules_of, sheet_tree, written_rules}
use Rattle.terms.specs.Check.{alphabet_refusal, automaton_refusal}
use Rattle.terms.proofs.Test.{or_false}
use Rattle.terms.proofs.Refusal.{none_before, no_row}
use Rattle.terms.proofs.Sheet.Automaton.{automaton_passed}
use Rattle.terms.proofs.Sheet.Write.{length-sheet, written-alphabet, written-rules, written_automaton, written-passes}
use Rattle.practice_terms.specs.Draw.{Choice, choices}
use Rattle.practice_terms.specs.Practice.{practice_alphabet, practice_rules, practice_sheet, given_refusal, practice_refusal}
use Rattle.practice_terms.specs.Described.{practice_tree}
use Rattle.practice_terms.specs.Claims.{PracticeRight}
use Rattle.practice_terms.proofs.Choices.{all-below, length-choices, length_most}
use Rattle.terms.proofs.Sheet.Rules.{rules-read}
use Rattle.practice_terms.proofs.Rules.{length-bytes}
use Rattle.practice_terms.proofs.Passes.{rules_pass}
use Rattle.practice_terms.proofs.Tree.{derives}

alphabet-passes : alphabet_refusal practice_alphabet ≡ 0
unfolding alphabet_refusal all
alphabet-passes = refl

-- what is known of the lengths
pub record PracticeLengths (x m : ℕ) (automaton : List ℕ) : Type 0 where
  pub automaton_bytes : length automaton ≤ 1532
  pub rules-bytes : length (written_rules (practice_rules x m)) ≤ 128
  pub sheet-bytes : length (practice_sheet x m automaton) ≡ 15 + (length (written_rules (practice_rules x m)) + length automaton)

-- for every first x, and every automaton that passes 14 to 16
module _ (x m : ℕ) (few : m ≤ 20) (automaton : List ℕ) (ea : automaton_refusal practice_alphabet automaton ≡ 0) where
  abbrev cs : List Choice
  cs = choices x m

  abbrev bytes : List ℕ
  bytes = written_rules (practice_rules x m)

  bytes_most : length bytes ≤ 128
  bytes_most = omega (arith, length-bytes cs, length_most cs, length-choices x m)

  automaton_most : length automaton ≤ 1532
  automaton_most = let p = automaton_passed practice_alphabet automaton ea in omega arith

  fits : 12 + (length practice_alphabet + (length bytes + length automaton)) < 65536
  fits = omega (arith, bytes_most, automaton_most)

  pub practice_lengths : PracticeLengths x m automaton
  unfolding practice_sheet
  practice_lengths = record {
    automaton_bytes = automaton_most;
    rules-bytes = bytes_most;
    sheet-bytes = omega (arith, length-sheet practice_alphabet bytes automaton fits);
  }

  pub practice_right : PracticeRight x m automaton
  unfolding practice_sheet practice_tree sheet_tree rules_of
  practice_right =
      let n = length-choices x m in
      let low : length cs ≤ 20 = omega arith in
      let b = all-below x m in
      let wa = written-alphabet practice_alphabet bytes automaton fits in
      let wr = ap (λ (r : RulesBody). r.rules) (ap rules_body (written-rules practice_alphabet bytes automaton fits) ∙ rules-read (practice_rules x m)) in
      record {
        passes = written-passes practice_alphabet bytes automaton alphabet-passes (rules_pass cs low b) ea (omega (arith, bytes_most));
        alphabet-given = wa;
        rules-given = wr;
        automaton_given = written_automaton practice_alphabet bytes automaton fits;
        tree-described = rw (wa, wr, derives cs b low, n);
      }

-- what is known where m and the automaton are not refused
pub record GivenPassed (m : ℕ) (automaton : List ℕ) : Type 0 where
  pub few : m ≤ 20
  pub automaton_passes : automaton_refusal practice_alphabet automaton ≡ 0

pub given_passed : (m : ℕ) (automaton : List ℕ) → given_refusal m automaton ≡ 0 → GivenPassed m automaton
given_passed m automaton e =
    let (e27, r27) = no_row 26 (outside 1 20 m) _ e in
    record {
      few = ltb-false 20 m (or_false (ltb m 1) (ltb 20 m) e27).1;
      automaton_passes = (none_before (automaton_refusal practice_alphabet automaton) _ r27).0;
    }

-- the sheet that is written is right
pub written_right : (x m : ℕ) (automaton : List ℕ) (room : ℕ) → practice_refusal x m automaton room ≡ 0 → PracticeRight x m automaton
unfolding practice_refusal
written_right x m automaton room e =
    let g = given_passed m automaton (none_before (given_refusal m automaton) _ e).0 in
    practice_right x m g.few automaton g.automaton_passes
