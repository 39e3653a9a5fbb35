-- What is written as a sheet of three bodies is read as those bodies.
use mathlib.Core.Path.{◌≡◌, refl}
use mathlib.Core.Bool.{true}
use mathlib.Core.List.{List, ◌++◌}
use Prim.Native.Nat.{ℕ, ◌+◌, ◌*◌, ◌/◌, ◌%◌, ◌≤◌, ◌<◌}
use native.Mathlib.Omega.{arith}
use borrow.Author.Tests.{le-ltb, eq-eqb}
use lib.ListN.{length, drop, length-append}
use lib.Seq.{take-append_seam, drop-append_seam, drop-drop, take-length}
use Rattle.terms.specs.Bytes.{word}
use Rattle.terms.specs.Sheet.{body_offset, body_length, body, sheet_of}
use Rattle.terms.specs.Check.{alphabet_refusal, rules_refusal, automaton_refusal, joins, sheet_refusal}
use Rattle.terms.proofs.Sheet.Passed.{alphabet_passed}
use Rattle.terms.proofs.Sheet.Automaton.{automaton_passed}

-- a number from its two bytes
pub word_back : (n : ℕ) → n < 65536 → n % 256 + 256 * (n / 256 % 256) ≡ n
word_back n h = omega arith

module _ (alphabet rules automaton : List ℕ) (fits : 12 + (length alphabet + (length rules + length automaton)) < 65536) where
  abbrev s : List ℕ
  s = sheet_of alphabet rules automaton

  pub length-sheet : length s ≡ 12 + (length alphabet + (length rules + length automaton))
  unfolding sheet_of
  length-sheet = omega (arith, length-append alphabet (rules ++ automaton), length-append rules automaton)

  behind : drop 12 s ≡ alphabet ++ (rules ++ automaton)
  unfolding sheet_of
  behind = refl

  offset_0 : body_offset s 0 ≡ 12
  unfolding sheet_of word
  offset_0 = refl

  length_0 : body_length s 0 ≡ length alphabet
  unfolding sheet_of word
  length_0 = word_back (length alphabet) (omega arith)

  offset_1 : body_offset s 1 ≡ 12 + length alphabet
  unfolding sheet_of word
  offset_1 = word_back (12 + length alphabet) (omega arith)

  length_1 : body_length s 1 ≡ length rules
  unfolding sheet_of word
  length_1 = word_back (length rules) (omega arith)

  offset_2 : body_offset s 2 ≡ 12 + length alphabet + length rules
  unfolding sheet_of word
  offset_2 = word_back (12 + length alphabet + length rules) (omega arith)

  length_2 : body_length s 2 ≡ length automaton
  unfolding sheet_of word
  length_2 = word_back (length automaton) (omega arith)

  pub written-alphabet : body s 0 ≡ alphabet
  unfolding body
  written-alphabet = rw (offset_0, length_0, behind) (take-append_seam alphabet (rules ++ automaton))

  pub written-rules : body s 1 ≡ rules
  unfolding body
  written-rules =
      rw (offset_1, length_1, ← drop-drop (length alphabet) 12 s, behind, drop-append_seam alphabet (rules ++ automaton)) (take-append_seam rules automaton)

  pub written_automaton : body s 2 ≡ automaton
  unfolding body
  written_automaton =
      rw (offset_2, length_2, ← drop-drop (length rules) (12 + length alphabet) s, ← drop-drop (length alphabet) 12 s, behind, drop-append_seam alphabet (rules ++ automaton), drop-append_seam rules automaton) (take-length automaton)

  pub written-joins : joins s ≡ true
  unfolding joins
  written-joins =
      rw (eq-eqb (body_offset s 0) 12 offset_0, eq-eqb (body_offset s 1) (body_offset s 0 + body_length s 0) (omega (arith, offset_0, length_0, offset_1)), eq-eqb (body_offset s 2) (body_offset s 1 + body_length s 1) (omega (arith, offset_1, length_1, offset_2)), eq-eqb (length s) (body_offset s 2 + body_length s 2) (omega (arith, length-sheet, offset_2, length_2)))

-- a sheet whose bodies are not refused, and whose rules are short enough, is not refused
pub written-passes : (alphabet rules automaton : List ℕ) → alphabet_refusal alphabet ≡ 0 → rules_refusal alphabet rules ≡ 0
    → automaton_refusal alphabet automaton ≡ 0 → length rules ≤ 256 → sheet_refusal (sheet_of alphabet rules automaton) ≡ 0
unfolding sheet_refusal
written-passes alphabet rules automaton ea er em short =
    let a = alphabet_passed alphabet ea in
    let m = automaton_passed alphabet automaton em in
    let s = sheet_of alphabet rules automaton in
    let fits : 12 + (length alphabet + (length rules + length automaton)) < 65536 = omega arith in
    let l = length-sheet alphabet rules automaton fits in
    rw (le-ltb (length s) 12 (omega arith), le-ltb 1832 (length s) (omega arith), written-joins alphabet rules automaton fits, written-alphabet alphabet rules automaton fits, written-rules alphabet rules automaton fits, written_automaton alphabet rules automaton fits, ea, er, em)
