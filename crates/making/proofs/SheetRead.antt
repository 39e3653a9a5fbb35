-- What is known of a sheet that was read: its parts are a grammar over its alphabet.
use mathlib.Core.Path.{◌≡◌, ap}
use mathlib.Core.List.{List}
use Prim.Native.Nat.{ℕ, ◌≤◌}
use native.Mathlib.Omega.{arith}
use lib.ListN.{length, length-drop}
use Rattle.terms.specs.FormBytes.{head_length, form_length, behind_head}
use Rattle.terms.specs.Sheet.{body, alphabet_of, rules_body, rules_of}
use Rattle.terms.specs.Check.{sheet_refusal}
use Rattle.terms.specs.Calls.{rules_asked}
use Rattle.terms.proofs.Sheet.Grammar.{rules_passed}
use Rattle.terms.proofs.Sheet.Passed.{sheet_passed}
use Rattle.skeletons.specs.Form.{made_form}
use Rattle.cleaning_terms.specs.Cleaning.{cleaned}
use Rattle.right_sides.specs.Rules.{Grammar}
use Rattle.making.specs.Making.{form_of}
use Rattle.making.specs.Private.Read.{FormWritten}

module _ (s : List ℕ) {alphabet rules : List ℕ} (passes : sheet_refusal s ≡ 0) (a : alphabet ≡ alphabet_of s) (b : rules ≡ body s 1) where
  -- the parts are a grammar over the alphabet, and the table has room for its form's rules
  pub grammar : {count asked : ℕ} → count ≡ length (rules_of s) → asked ≡ rules_asked s → (form : List ℕ) → form_length (length alphabet) asked ≤ length form
      → (head_length (length alphabet) ≤ length form) × Grammar (behind_head (length alphabet) form) alphabet rules count
  unfolding rules_of
  grammar counted k form h =
      let passed = sheet_passed s passes in
      let p = rules_passed (alphabet_of s) (body s 1) passed.rules in
      let fits : form_length (length (alphabet_of s)) (rules_asked s) ≤ length form = omega (arith, ap length a) in
      rw (a, b) (
        omega arith,
        record {
          alphabet = passed.alphabet;
          proper = p.proper;
          count = counted;
          few = p.few-nodes;
          room = omega (arith, length-drop (head_length (length (alphabet_of s))) form);
        },
      )

  -- a form of the cleaned parts is the form of the sheet
  pub sheet-made : {n : ℕ} {exit entry : List ℕ} → FormWritten alphabet (rules_body rules).rules (made_form alphabet (cleaned alphabet (rules_body rules).rules)) n exit entry
      → FormWritten (alphabet_of s) (rules_of s) (form_of s) n exit entry
  unfolding rules_of
  sheet-made w = rw (a, b) at w
