-- What form making and marking ask for is just enough, where the sheet passes.
use mathlib.Core.Path.{◌≡◌}
use mathlib.Core.List.{List}
use Prim.Native.Nat.{ℕ, ◌≤◌}
use native.Mathlib.Omega.{arith}
use borrow.Author.Tests.{lt-ltb, le-ltb}
use Rattle.terms.specs.Sheet.{body, alphabet_of, rules_body, rules_of}
use Rattle.terms.specs.Check.{sheet_refusal}
use Rattle.terms.specs.Calls.{rules_asked, most_asked, form_asked, making_refusal, sheet_marking_refusal}
use Rattle.terms.specs.Asked.{JustEnough}
use Rattle.terms.proofs.Form.Bound.{bound-few}
use Rattle.terms.proofs.Sheet.Grammar.{rules_passed}
use Rattle.terms.proofs.Sheet.Passed.{sheet_passed}

module _ (sheet : List ℕ) (passes : sheet_refusal sheet ≡ 0) where
  asked_small : rules_asked sheet ≤ most_asked
  unfolding rules_of
  asked_small =
      let rules = rules_passed (alphabet_of sheet) (body sheet 1) (sheet_passed sheet passes).rules in
      omega (arith, bound-few (alphabet_of sheet) (rules_body (body sheet 1)).rules rules.proper, rules.few-nodes)

  pub just_enough : JustEnough sheet
  unfolding making_refusal sheet_marking_refusal
  just_enough = record {
    makes = λ bytes h. rw (passes, le-ltb bytes (form_asked sheet) h);
    marks = λ bytes numbers h k. rw (passes, le-ltb bytes (form_asked sheet) h, le-ltb numbers (rules_asked sheet) k);
    short_making = λ bytes h. rw (passes, lt-ltb bytes (form_asked sheet) h);
    short-marking = λ bytes numbers h. rw (passes, lt-ltb bytes (form_asked sheet) h);
    few-numbers = λ bytes numbers h k. rw (passes, le-ltb bytes (form_asked sheet) h, lt-ltb numbers (rules_asked sheet) k);
    most = asked_small;
  }
