-- Lists of calls or of answers, each with the number of its candidate (document 02, R-1).
use Rattle.std.specs.Prelude.{Bool, cond, List, [], ◌∷◌, ℕ, zero, suc, ◌+◌, eqb}
use Rattle.terms.specs.Calls.{MarkAnswer}

-- a candidate's turn at the desk: the call, or what it was answered (02 R-1)
pub record Turn (A : Type 0) : Type 0 where
  pub candidate : ℕ
  pub what : A

-- the elements of a list that pass a test (02 R-1)
unfoldable pub keep : {A : Type 0} → (A → Bool) → List A → List A
keep test [] = []
keep test (x ∷ xs) = cond (test x) (x ∷ keep test xs) (keep test xs)

-- how many elements of a list pass a test (02 R-1)
unfoldable pub how_many : {A : Type 0} → (A → Bool) → List A → ℕ
how_many test [] = 0
how_many test (x ∷ xs) = cond (test x) 1 0 + how_many test xs

-- the sum of f 0 to f (n - 1), without a bound (02 R-1)
unfoldable pub sum_below : ℕ → (ℕ → ℕ) → ℕ
sum_below zero f = 0
sum_below (suc n) f = sum_below n f + f n

-- those of one candidate (02 R-1)
abbrev pub own : {A : Type 0} → ℕ → List (Turn A) → List (Turn A)
own c turns = keep (λ turn. eqb turn.candidate c) turns

-- the calls of a list without those whose answers pass a test (02 R-1)
unfoldable pub without : {A : Type 0} → (MarkAnswer → Bool) → List (Turn A) → List (Turn MarkAnswer) → List (Turn A)
without test [] answers = []
without test (turn ∷ turns) [] = []
without test (turn ∷ turns) (answer ∷ answers) = cond (test answer.what) (without test turns answers) (turn ∷ without test turns answers)
