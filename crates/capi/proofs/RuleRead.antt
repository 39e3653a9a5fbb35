-- Reading a rule into a slice: the call's refusal and slice by what reading a number answered, and the seven numbers in their places.
use mathlib.Core.Path.{◌≡◌, refl}
use native.Mathlib.Decide.{dec_le}
use mathlib.Core.List.{List, [], ◌∷◌, ◌++◌}
use Prim.Native.Nat.{ℕ, zero, suc, ◌≤◌}
use native.Mathlib.Omega.{arith}
use borrow.Author.Tests.{le-leb, le-ltb}
use lib.Dec.{leb}
use lib.ListN.{length, drop, set}
use Rattle.terms.specs.Refusal.{◌when◌, first}
use Rattle.std.specs.Prelude.{Result, Ok, Err, min}
use Rattle.terms.specs.declared.refusals.Refusal.{Refusal}
use Rattle.terms.specs.Answer.{answer, answer_of, refusal_of}
use Rattle.terms.specs.FormBytes.{rule_count, table_of}
use Rattle.terms.specs.Calls.{lent_after, opening_refusal, reading_refusal}
use Rattle.form_bytes.specs.declared.rule.FormRule.{FormRule}
use Rattle.form_bytes.specs.Fields.{fields_at}
use Rattle.forms.proofs.Rules.{passed, opening_passed}
use Rattle.opening.specs.Reading.{rule_reading}
use Rattle.capi.specs.Result.{rule_numbers, rule_call_refusal}

-- two numbers that no rule has are read alike
module _ (alphabet form : List ℕ) (i j : ℕ) (l : i ≤ j) where
  by_refusal : (refusal : ℕ) (v w : FormRule) → (refusal ≡ 0 → rule_count form ≤ i)
      → answer (first (refusal ∷ 21 when (leb (rule_count form) i) ∷ [])) v ≡ answer (first (refusal ∷ 21 when (leb (rule_count form) j) ∷ [])) w
  by_refusal zero v w h = rw (le-leb (rule_count form) i (h refl), le-leb (rule_count form) j (omega (arith, h refl)))
  by_refusal (suc n) v w h = refl

  pub read_alike : 65535 ≤ i → rule_reading alphabet form i ≡ rule_reading alphabet form j
  unfolding rule_reading reading_refusal
  read_alike h = by_refusal (opening_refusal alphabet form) _ _ (λ e. let (a, f) = opening_passed alphabet form e in omega (arith, (passed alphabet form a f).few))

-- what reading a number answered, where all numbers that no rule has are read as the largest
pub read_within : (alphabet form : List ℕ) (number : ℕ) → rule_reading alphabet form (min number 65535) ≡ rule_reading alphabet form number
read_within alphabet form number = go (dec_le number 65535)
  where
    go : Dec (number ≤ 65535) → rule_reading alphabet form (min number 65535) ≡ rule_reading alphabet form number
    go (yes h) = let e : min number 65535 ≡ number = omega arith in rw e
    go (no h) = let e : min number 65535 ≡ 65535 = omega arith in rw e (read_alike alphabet form 65535 number (omega arith) (omega arith))

-- the slice after a reading
abbrev slice_after : Result FormRule Refusal → List ℕ → List ℕ
slice_after (Ok rule) entry = rule_numbers rule ++ drop 7 entry
slice_after (Err refusal) entry = entry

said_by : (k : ℕ) (v : FormRule) (entry : List ℕ) (r : Result FormRule Refusal) → answer_of r ≡ answer k v
    → (refusal_of r ≡ k) × (slice_after r entry ≡ lent_after k (rule_numbers v) entry)
said_by zero v entry (Ok rule) e = let is : rule ≡ v = cc in rw is (refl, refl)
said_by zero v entry (Err refusal) e = absurd (let z : ◌≡◌ {A = ℕ} 0 1 = cc in omega arith)
said_by (suc k) v entry (Ok rule) e = absurd (let z : ◌≡◌ {A = ℕ} 0 1 = cc in omega arith)
said_by (suc k) v entry (Err refusal) e = (cc, refl)

-- with seven places the call refuses what reading refuses, and writes what it reads
pub reading_said : (alphabet form : List ℕ) (number : ℕ) (entry : List ℕ) (r : Result FormRule Refusal) → 7 ≤ length entry → answer_of r ≡ rule_reading alphabet form number
    → (let refusal = rule_call_refusal alphabet form number (length entry) in
    (refusal_of r ≡ refusal) × (slice_after r entry ≡ lent_after refusal (rule_numbers (fields_at (table_of form) number)) entry))
unfolding rule_reading reading_refusal rule_call_refusal
reading_said alphabet form number entry r h e = rw (le-ltb (length entry) 7 h) (said_by (reading_refusal alphabet form number) (fields_at (table_of form) number) entry r e)

-- seven numbers put into the first places of a list
pub seven_set : (a b c d e f g : ℕ) (l : List ℕ) → 7 ≤ length l
    → set (set (set (set (set (set (set l 0 a) 1 b) 2 c) 3 d) 4 e) 5 f) 6 g ≡ a ∷ b ∷ c ∷ d ∷ e ∷ f ∷ g ∷ drop 7 l
seven_set a b c d e f g [] h = absurd (omega arith)
seven_set a b c d e f g (x₀ ∷ []) h = absurd (omega arith)
seven_set a b c d e f g (x₀ ∷ x₁ ∷ []) h = absurd (omega arith)
seven_set a b c d e f g (x₀ ∷ x₁ ∷ x₂ ∷ []) h = absurd (omega arith)
seven_set a b c d e f g (x₀ ∷ x₁ ∷ x₂ ∷ x₃ ∷ []) h = absurd (omega arith)
seven_set a b c d e f g (x₀ ∷ x₁ ∷ x₂ ∷ x₃ ∷ x₄ ∷ []) h = absurd (omega arith)
seven_set a b c d e f g (x₀ ∷ x₁ ∷ x₂ ∷ x₃ ∷ x₄ ∷ x₅ ∷ []) h = absurd (omega arith)
seven_set a b c d e f g (x₀ ∷ x₁ ∷ x₂ ∷ x₃ ∷ x₄ ∷ x₅ ∷ x₆ ∷ xs) h = refl
