-- Which choices of states a rule has, by the lane of the first parameter's state and the number of the others'.
use mathlib.Core.Path.{◌≡◌, refl}
use mathlib.Core.Bool.{Bool, ◌&&◌}
use Prim.Native.Nat.{ℕ, zero, suc, ◌+◌, ◌*◌, ◌/◌, ◌%◌, ◌^◌, ◌≤◌, ◌<◌}
use native.Mathlib.Omega.{arith}
use native.Mathlib.Decide.{dec_lt}
use native.Mathlib.Nat.{pow-le-pow_right}
use lib.Dec.{T, ltb, ltb→lt, lt→ltb}
use Rattle.terms.proofs.Test.{same_test, both, parts}
use Rattle.blackboard_terms.specs.Blackboard.{state_at, is_choice}
use Rattle.blackboard_terms.proofs.Digits.{choice-own, choice-others, choice-is}
use Rattle.rule_tables.specs.Choice.{lanes_of, choices_of, states_behind}

-- a rule with a parameter has a lane for each state
pub several_lanes : (n Q : ℕ) → (n ≡ 0 → ⊥) → Q ≡ lanes_of n Q
several_lanes zero Q h = absurd (h refl)
several_lanes (suc n) Q h = refl

-- p is the lane of a state, and d a number of states
abbrev pub lane_choice : ℕ → ℕ → ℕ → ℕ → Bool
lane_choice Q n d p = ltb p (lanes_of n Q) && (ltb d (choices_of n) && states_behind Q d)

module _ (Q d p : ℕ) (some_state : 1 ≤ Q) (hd : d < 512) (hp : p < 8) where
  abbrev c : ℕ
  c = 8 * d + p

  digit_0 : state_at c 0 ≡ p
  unfolding state_at
  digit_0 = omega arith

  digit_1 : state_at c 1 ≡ d % 8
  unfolding state_at
  digit_1 = omega arith

  digit_2 : state_at c 2 ≡ d / 8 % 8
  unfolding state_at
  digit_2 = omega arith

  digit_3 : state_at c 3 ≡ d / 64 % 8
  unfolding state_at
  digit_3 = omega arith

  -- A choice, taken apart.

  module _ (n : ℕ) (l : n ≤ 4) (h : T (is_choice Q n c)) where
    zero_at : (j : ℕ) → j < 4 → n ≤ j → state_at c j ≡ 0
    zero_at = choice-others Q n c h

    state_at_lem : (j : ℕ) → j < 4 → state_at c j < Q
    state_at_lem j m = go (dec_lt j n)
      where
        go : Dec (j < n) → state_at c j < Q
        go (yes k) = choice-own Q n c l h j k
        go (no k) = omega (arith, zero_at j m (omega arith))

  in_lanes : (n : ℕ) → n ≤ 4 → T (is_choice Q n c) → p < lanes_of n Q
  in_lanes zero l h = omega (arith, digit_0, zero_at 0 l h 0 (omega arith) (omega arith))
  in_lanes (suc n) l h = omega (arith, digit_0, state_at_lem (suc n) l h 0 (omega arith))

  below_64 : state_at c 3 ≡ 0 → d < 64
  below_64 z = omega (arith, digit_3)

  below_8 : d < 64 → state_at c 2 ≡ 0 → d < 8
  below_8 l z = omega (arith, digit_2)

  below_1 : d < 8 → state_at c 1 ≡ 0 → d < 1
  below_1 l z = omega (arith, digit_1)

  few-choices : (n : ℕ) → n ≤ 4 → ((j : ℕ) → j < 4 → n ≤ j → state_at c j ≡ 0) → d < choices_of n
  few-choices zero l z = below_1 (below_8 (below_64 (z 3 (omega arith) (omega arith))) (z 2 (omega arith) (omega arith))) (z 1 (omega arith) (omega arith))
  few-choices (suc zero) l z = below_1 (below_8 (below_64 (z 3 (omega arith) (omega arith))) (z 2 (omega arith) (omega arith))) (z 1 (omega arith) (omega arith))
  few-choices (suc (suc zero)) l z = below_8 (below_64 (z 3 (omega arith) (omega arith))) (z 2 (omega arith) (omega arith))
  few-choices (suc (suc (suc zero))) l z = below_64 (z 3 (omega arith) (omega arith))
  few-choices (suc (suc (suc (suc zero)))) l z = hd
  few-choices (suc (suc (suc (suc (suc n))))) l z = absurd (omega arith)

  apart : (n : ℕ) → n ≤ 4 → T (is_choice Q n c) → T (lane_choice Q n d p)
  apart n l h =
      both (ltb p (lanes_of n Q)) _ (lt→ltb p (lanes_of n Q) (in_lanes n l h))
      (both (ltb d (choices_of n)) (states_behind Q d) (lt→ltb d (choices_of n) (few-choices n l (zero_at n l h)))
      (both (ltb (d % 8) Q) _ (lt→ltb (d % 8) Q (omega (arith, digit_1, state_at_lem n l h 1 (omega arith))))
      (both (ltb (d / 8 % 8) Q) (ltb (d / 64 % 8) Q) (lt→ltb (d / 8 % 8) Q (omega (arith, digit_2, state_at_lem n l h 2 (omega arith))))
      (lt→ltb (d / 64 % 8) Q (omega (arith, digit_3, state_at_lem n l h 3 (omega arith)))))))

  -- A choice, put together.

  own : (n : ℕ) → p < lanes_of n Q → T (states_behind Q d) → (j : ℕ) → j < n → j < 4 → state_at c j < Q
  own zero h s j k m = absurd (omega arith)
  own (suc n) h s zero k m = omega (arith, digit_0)
  own (suc n) h s (suc zero) k m = omega (arith, digit_1, ltb→lt (d % 8) Q (parts (ltb (d % 8) Q) _ s).0)
  own (suc n) h s (suc (suc zero)) k m = omega (arith, digit_2, ltb→lt (d / 8 % 8) Q (parts (ltb (d / 8 % 8) Q) _ (parts (ltb (d % 8) Q) _ s).1).0)
  own (suc n) h s (suc (suc (suc zero))) k m = omega (arith, digit_3, ltb→lt (d / 64 % 8) Q (parts (ltb (d / 8 % 8) Q) _ (parts (ltb (d % 8) Q) _ s).1).1)
  own (suc n) h s (suc (suc (suc (suc j)))) k m = absurd (omega arith)

  below : (n j : ℕ) → n ≤ suc j → choices_of n ≤ 8 ^ j
  below n j k = pow-le-pow_right (omega arith) (omega arith)

  others : (n : ℕ) → p < lanes_of n Q → d < choices_of n → (j : ℕ) → j < 4 → n ≤ j → state_at c j ≡ 0
  others zero h f zero m k = omega (arith, digit_0)
  others (suc n) h f zero m k = absurd (omega arith)
  others n h f (suc zero) m k = let b : choices_of n ≤ 8 ^ 0 = below n 0 k in omega (arith, digit_1)
  others n h f (suc (suc zero)) m k = let b : choices_of n ≤ 8 ^ 1 = below n 1 k in omega (arith, digit_2)
  others n h f (suc (suc (suc zero))) m k = let b : choices_of n ≤ 8 ^ 2 = below n 2 k in omega (arith, digit_3)
  others n h f (suc (suc (suc (suc j)))) m k = absurd (omega arith)

  together : (n : ℕ) → n ≤ 4 → T (lane_choice Q n d p) → T (is_choice Q n c)
  together n l h =
      let (lane, rest) = parts (ltb p (lanes_of n Q)) _ h in
      let (few, states) = parts (ltb d (choices_of n)) (states_behind Q d) rest in
      let first = ltb→lt p (lanes_of n Q) lane in
      choice-is Q n c (λ j k. own n first states j k (omega arith)) (λ j m k. others n first (ltb→lt d (choices_of n) few) j m k)

  pub choice-lane : (n : ℕ) → n ≤ 4 → is_choice Q n c ≡ lane_choice Q n d p
  choice-lane n l = same_test (is_choice Q n c) (lane_choice Q n d p) (apart n l) (together n l)
