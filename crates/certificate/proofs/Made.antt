-- What follows form making, by its answer.
use mathlib.Core.Path.{◌≡◌, refl, sym, ap, subst, ◌∙◌}
use mathlib.Core.List.{List}
use Prim.Native.Nat.{ℕ, ◌≤◌}
use lib.ListN.{length, take}
use lib.Seq.{length-take-le}
use Rattle.terms.specs.Answer.{Answer, refused, answered, answer_of, number_of}
use Rattle.std.specs.Prelude.{Err}
use Rattle.terms.specs.declared.refusals.Refusal.{Refusal}
use Rattle.terms.specs.Sheet.{alphabet_of, automaton_of}
use Rattle.making.specs.Making.{Makes}
use Rattle.certificate.specs.Certify.{Slices, Ran, Follows, CallsMade}
use Rattle.certificate.specs.declared.certify.Answers.{Answers}

module _ {m : Answer ℕ} {sheet form form' : List ℕ} (makes : Makes sheet m form' form) where
  -- a refusal is handed on
  pub handed_on : (e : Refusal) → m ≡ refused (number_of e) → (lent : Slices)
      → CallsMade sheet (record { made = Err e; evaluated = Err e; unfolded = Err e; walked = Err e }) form lent form' lent
  handed_on e given lent = record {
    makes = subst (λ (x : Answer ℕ). Makes sheet x form' form) given makes;
    followed = record { evaluated = refl; relations = refl; unfolded = refl; counts = refl; tree = refl; walked = refl; masks = refl };
  }

  -- the calls on the form that was written
  pub calls_follow : {n : ℕ} → m ≡ answered n → n ≤ length form' → {alphabet automaton : List ℕ} {answers : Answers} {lent left : Slices} → alphabet ≡ alphabet_of sheet → automaton ≡ automaton_of sheet
      → Ran alphabet automaton (take n form') answers lent left → CallsMade sheet answers form lent form' left
  calls_follow {n} e within {answers = answers} {lent = lent} {left = left} a b ran =
      let made : m ≡ answer_of answers.made = e ∙ sym (ran.made ∙ ap answered (length-take-le n form' within)) in
      let follows : Follows sheet (answered n) form' answers lent left = rw (a, b) at ran in
      record {
        makes = subst (λ (x : Answer ℕ). Makes sheet x form' form) made makes;
        followed = subst (λ (x : Answer ℕ). Follows sheet x form' answers lent left) (sym e ∙ made) follows;
      }
