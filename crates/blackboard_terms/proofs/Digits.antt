-- Choices of states as numbers, by their digits.
use mathlib.Core.Path.{◌≡◌}
use mathlib.Core.Bool.{Bool, cond}
use Prim.Native.Nat.{ℕ, zero, suc, ◌+◌, ◌*◌, ◌≤◌, ◌<◌}
use native.Mathlib.Omega.{arith}
use native.Mathlib.Decide.{dec_lt}
use lib.Dec.{T, ltb, eqb, ltb→lt, lt→ltb, eqb→eq}
use borrow.Author.Tests.{lt-ltb, le-ltb}
use Rattle.terms.proofs.Test.{every_at, every_of, equal}
use Rattle.blackboard_terms.specs.Blackboard.{state_at, is_choice}

-- the choice of the states ps
abbrev pub choice_of : (ℕ → ℕ) → ℕ
choice_of ps = ps 0 + 8 * ps 1 + 64 * ps 2 + 512 * ps 3

pub state_lt : (c j : ℕ) → state_at c j < 8
unfolding state_at
state_lt c j = omega arith

module _ (ps : ℕ → ℕ) (low : (j : ℕ) → j < 4 → ps j < 8) where
  pub choice_lt : choice_of ps < 4096
  choice_lt = omega (arith, low 0 (omega arith), low 1 (omega arith), low 2 (omega arith), low 3 (omega arith))

  pub state_choice : (j : ℕ) → j < 4 → state_at (choice_of ps) j ≡ ps j
  unfolding state_at
  state_choice zero h = omega (arith, low 0 (omega arith), low 1 (omega arith), low 2 (omega arith), low 3 (omega arith))
  state_choice (suc zero) h = omega (arith, low 0 (omega arith), low 1 (omega arith), low 2 (omega arith), low 3 (omega arith))
  state_choice (suc (suc zero)) h = omega (arith, low 0 (omega arith), low 1 (omega arith), low 2 (omega arith), low 3 (omega arith))
  state_choice (suc (suc (suc zero))) h = omega (arith, low 0 (omega arith), low 1 (omega arith), low 2 (omega arith), low 3 (omega arith))
  state_choice (suc (suc (suc (suc j)))) h = absurd (omega arith)

-- what a choice of a rule of rank n is

abbrev place_test : ℕ → ℕ → ℕ → ℕ → Bool
place_test Q n c j = cond (ltb j n) (ltb (state_at c j) Q) (eqb (state_at c j) 0)

pub choice-own : (Q n c : ℕ) → n ≤ 4 → T (is_choice Q n c) → (j : ℕ) → j < n → state_at c j < Q
unfolding is_choice
choice-own Q n c l h j m = ltb→lt (state_at c j) Q (rw (lt-ltb j n m) at (every_at 4 (place_test Q n c) h j (omega arith)))

pub choice-others : (Q n c : ℕ) → T (is_choice Q n c) → (j : ℕ) → j < 4 → n ≤ j → state_at c j ≡ 0
unfolding is_choice
choice-others Q n c h j l m = eqb→eq (state_at c j) 0 (rw (le-ltb j n m) at (every_at 4 (place_test Q n c) h j l))

pub choice-is : (Q n c : ℕ) → ((j : ℕ) → j < n → state_at c j < Q) → ((j : ℕ) → j < 4 → n ≤ j → state_at c j ≡ 0) → T (is_choice Q n c)
unfolding is_choice
choice-is Q n c own others = every_of 4 (place_test Q n c) (λ j l. go j l (dec_lt j n))
  where
    go : (j : ℕ) → j < 4 → Dec (j < n) → T (place_test Q n c j)
    go j l (yes m) = rw (lt-ltb j n m) (lt→ltb (state_at c j) Q (own j m))
    go j l (no m) = rw (le-ltb j n (omega arith)) (equal (state_at c j) 0 (others j l (omega arith)))
