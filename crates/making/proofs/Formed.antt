-- What form making wrote is a form of the sheet, and stands at the beginning of the slice.
use mathlib.Core.Path.{◌≡◌, refl, sym, ◌∙◌}
use mathlib.Core.List.{List}
use Prim.Native.Nat.{ℕ, zero, suc, ◌≤◌}
use native.Mathlib.Omega.{arith}
use lib.ListN.{length, take, drop, length-append}
use lib.Seq.{take-append_seam}
use Rattle.terms.specs.Sheet.{alphabet_of, rules_of, sheet_tree}
use Rattle.terms.specs.Answer.{Answer, refused, answered, answer}
use Rattle.terms.specs.Calls.{lent_after, making_refusal}
use Rattle.terms.specs.Demand.{FormOfSheet}
use Rattle.terms.proofs.Form.Bytes.{form_passed}
use Rattle.making.specs.Making.{form_of, form_left, FormHolds, FormMade, Makes}

pub form_of_lem : (sheet : List ℕ) {form : List ℕ} → FormHolds (alphabet_of sheet) (rules_of sheet) form → FormOfSheet sheet form
unfolding sheet_tree
form_of_lem sheet {form} w = record { carried = (form_passed (alphabet_of sheet) form w.accepted).carried; valid = w.accepted; tree = w.tree; few = w.few; linear = w.linear }

-- the first bytes of a slice that a form was written into are that form
pub written-first : (form entry : List ℕ) {n : ℕ} {exit : List ℕ} → n ≡ length form → exit ≡ lent_after 0 form entry → take n exit ≡ form
written-first form entry long left = rw (left, long) (take-append_seam form (drop (length form) entry))

-- the promises of form making, by their names
pub makes : (sheet entry : List ℕ) {m : Answer ℕ} {exit : List ℕ}
    → (m ≡ answer (making_refusal sheet (length entry)) (length (form_of sheet))) × ((exit ≡ form_left sheet entry) × (making_refusal sheet (length entry) ≡ 0 → FormMade sheet (length entry)))
    → Makes sheet m exit entry
makes sheet entry p = record { answered = p.0; left = p.1.0; made = p.1.1 }

-- a form that was written
pub record Wrote (sheet : List ℕ) (n room : ℕ) (exit : List ℕ) : Type 0 where
  pub passes : making_refusal sheet room ≡ 0
  pub within : n ≤ length exit
  pub formed : FormOfSheet sheet (take n exit)

module _ {sheet : List ℕ} {m : Answer ℕ} {exit entry : List ℕ} (k : Makes sheet m exit entry) where
  pub wrote : {n : ℕ} → m ≡ answered n → Wrote sheet n (length entry) exit
  wrote {n} e = go (making_refusal sheet (length entry)) refl (sym k.answered ∙ e) k.left
    where
      go : (r : ℕ) → making_refusal sheet (length entry) ≡ r → answer r (length (form_of sheet)) ≡ answered n → exit ≡ lent_after r (form_of sheet) entry
          → Wrote sheet n (length entry) exit
      go zero t a l =
          let long : n ≡ length (form_of sheet) = cc in
          let first = written-first (form_of sheet) entry long l in
          record {
            passes = t;
            within = rw l (omega (arith, length-append (form_of sheet) (drop (length (form_of sheet)) entry)));
            formed = rw first (form_of_lem sheet (k.made t).holds);
          }
      go (suc r) t a l = absurd (let z : ◌≡◌ {A = ℕ} 0 1 = cc in omega arith)

  -- a refusal is no number 0, so none is given where nothing is refused
  pub none-refused : {n : ℕ} → m ≡ refused n → making_refusal sheet (length entry) ≡ 0 → ⊥
  none-refused {n} e t = let a : answered (length (form_of sheet)) ≡ refused n = rw t at (sym k.answered ∙ e) in let z : ◌≡◌ {A = ℕ} 0 1 = cc in omega arith
