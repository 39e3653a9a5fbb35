-- The choices of the draws, rule by rule, from the numbers that the generator comes to.
use Rattle.std.proofs.Common.{◌≡◌, ℕ, zero, suc, ◌+◌, ◌*◌, ◌%◌, ◌≤◌, Bool, true, false, cond, List, [], ◌∷◌, ◌++◌, drop, refl, ap, arith}
use Rattle.practice_terms.specs.Draw.{next, draw, draws, is_even, Choice, calls, beside, choices_by, choices}
use Rattle.practice_rules.specs.Drawn.{choice_from, after_rule}

-- the choices for n rules from rule i on
unfoldable pub choices_from : ℕ → ℕ → ℕ → List Choice
choices_from zero i x = []
choices_from (suc n) i x = choice_from i x ∷ choices_from n (suc i) (after_rule x)

-- the number after n rules
unfoldable pub after_rules : ℕ → ℕ → ℕ
after_rules zero x = x
after_rules (suc n) x = after_rule (after_rules n x)

-- Three draws for each rule are enough.

module _ (n i x k : ℕ) (enough : 3 * n ≤ k) (rest : (j y l : ℕ) → 3 * n ≤ l → choices_by n j (draws l y) ≡ choices_from n j y) where
  abbrev y : ℕ
  y = next (next x)

  abbrev chosen : Bool → Choice
  chosen even = cond even (calls (draw y % i) (draw (next y) % i)) (beside (draw y % i))

  either : (even : Bool)
      → chosen even ∷ choices_by n (suc i) (drop (cond even 3 2) (draws (suc (suc (suc k))) x)) ≡ chosen even ∷ choices_from n (suc i) (cond even (next y) y)
  unfolding draws
  either true = rw (rest (suc i) (next y) k enough)
  either false = ap (λ cs. chosen false ∷ cs) (rest (suc i) y (suc k) (omega arith))

  one_rule : choices_by (suc n) i (draws (suc (suc (suc k))) x) ≡ choices_from (suc n) i x
  unfolding choices_by draws choices_from
  one_rule = either (is_even (draw (next x)))

rule_by_rule : (n i x k : ℕ) → 3 * n ≤ k → choices_by n i (draws k x) ≡ choices_from n i x
unfolding choices_by choices_from
rule_by_rule zero i x k h = refl
rule_by_rule (suc n) i x zero h = absurd (omega arith)
rule_by_rule (suc n) i x (suc zero) h = absurd (omega arith)
rule_by_rule (suc n) i x (suc (suc zero)) h = absurd (omega arith)
rule_by_rule (suc n) i x (suc (suc (suc k))) h = one_rule n i x k (omega arith) (rule_by_rule n)

pub choices-from : (x m : ℕ) → choices x m ≡ choices_from m 1 x
unfolding choices
choices-from x m = rule_by_rule m 1 x (3 * m) (omega arith)

-- One rule more goes on from the number that those before it lead to.

after_next : (n x : ℕ) → after_rules n (after_rule x) ≡ after_rule (after_rules n x)
unfolding after_rules
after_next zero x = refl
after_next (suc n) x = ap after_rule (after_next n x)

pub choices-more : (n i x k : ℕ) → i + n ≡ k → choices_from (suc n) i x ≡ choices_from n i x ++ (choice_from k (after_rules n x) ∷ [])
unfolding choices_from after_rules
choices-more zero i x k e = let same : i ≡ k = omega arith in rw same
choices-more (suc n) i x k e =
    let more = choices-more n (suc i) (after_rule x) k (omega arith) in
    rw (more, after_next n x)
