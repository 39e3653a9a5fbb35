-- Refusals: where the first row that holds is none, no row holds.
use mathlib.Core.Path.{◌≡◌, refl}
use mathlib.Core.Bool.{Bool, true, false}
use Prim.Native.Nat.{ℕ, zero, suc, ◌<◌}
use native.Mathlib.Omega.{arith}
use Rattle.terms.specs.Test.{tabulate}
use Rattle.terms.specs.declared.refusals.Refusal.{Refusal}
use Rattle.terms.specs.declared.refusals.Refusal.TheVariants as refusals
use Rattle.terms.specs.Answer.{number_of}
use Rattle.terms.specs.Refusal.{◌when◌, or_else, first}

-- r is the first of two refusals: it is the first, or that is none and it is the second
pub is-first : {r n : ℕ} (m : ℕ) → r ≡ n → (r ≡ 0 → ⊥) → r ≡ or_else n m
is-first {n = zero} m e h = absurd (h e)
is-first {n = suc n} m e h = e

pub is-next : {q n m r : ℕ} → q ≡ n → q ≡ 0 → r ≡ m → r ≡ or_else n m
is-next {n = zero} e z h = h
is-next {n = suc n} e z h = absurd (omega arith)

pub or_none : (n : ℕ) → or_else n 0 ≡ n
or_none zero = refl
or_none (suc n) = refl

-- some refusals and what comes after them
pub none_before : (n m : ℕ) → or_else n m ≡ 0 → (n ≡ 0) × (m ≡ 0)
none_before zero m e = (refl, e)
none_before (suc n) m e = absurd (omega arith)

-- a row alone
pub not_given : (n : ℕ) (b : Bool) → suc n when b ≡ 0 → b ≡ false
not_given n true e = absurd (omega arith)
not_given n false e = refl

-- a row and what comes after it
pub no_row : (n : ℕ) (b : Bool) (m : ℕ) → or_else (suc n when b) m ≡ 0 → (b ≡ false) × (m ≡ 0)
no_row n true m e = absurd (omega arith)
no_row n false m e = (refl, e)

-- rows by their places
pub none_at : (n : ℕ) (f : ℕ → ℕ) → first (tabulate n f) ≡ 0 → (i : ℕ) → i < n → f i ≡ 0
unfolding tabulate
none_at zero f e i h = absurd (omega arith)
none_at (suc n) f e zero h = (none_before (f 0) (first (tabulate n (λ i. f (suc i)))) e).0
none_at (suc n) f e (suc i) h = none_at n (λ i. f (suc i)) (none_before (f 0) (first (tabulate n (λ i. f (suc i)))) e).1 i (omega arith)

-- a refusal stands before what comes after it
pub stops : (a b : ℕ) → (a ≡ 0 → ⊥) → or_else a b ≡ a
stops zero b r = absurd (r refl)
stops (suc a) b r = refl

-- a table in which nothing is refused
pub none-refused : (n : ℕ) (f : ℕ → ℕ) → ((k : ℕ) → k < n → f k ≡ 0) → first (tabulate n f) ≡ 0
unfolding tabulate
none-refused zero f h = refl
none-refused (suc n) f h = rw (h 0 (omega arith)) (none-refused n (λ k. f (suc k)) (λ k l. h (suc k) (omega arith)))

-- a table whose first refusal is at i
pub first-refused : (n : ℕ) (f : ℕ → ℕ) (i : ℕ) → i < n → ((k : ℕ) → k < i → f k ≡ 0) → (f i ≡ 0 → ⊥) → first (tabulate n f) ≡ f i
unfolding tabulate
first-refused zero f i l h r = absurd (omega arith)
first-refused (suc n) f zero l h r = stops (f 0) (first (tabulate n (λ k. f (suc k)))) r
first-refused (suc n) f (suc i) l h r =
    rw (h 0 (omega arith)) (first-refused n (λ k. f (suc k)) i (omega arith) (λ k m. h (suc k) (omega arith)) r)

-- every refusal has a number above 0
pub numbered : (e : Refusal) → number_of e ≡ 0 → ⊥
numbered refusals.SheetLength h = absurd (omega arith)
numbered refusals.Contents h = absurd (omega arith)
numbered refusals.TerminalCount h = absurd (omega arith)
numbered refusals.TerminalRank h = absurd (omega arith)
numbered refusals.RulesEnd h = absurd (omega arith)
numbered refusals.RuleCount h = absurd (omega arith)
numbered refusals.NodeCount h = absurd (omega arith)
numbered refusals.RuleRank h = absurd (omega arith)
numbered refusals.NodeName h = absurd (omega arith)
numbered refusals.RightSide h = absurd (omega arith)
numbered refusals.Parameter h = absurd (omega arith)
numbered refusals.StartRank h = absurd (omega arith)
numbered refusals.AutomatonLength h = absurd (omega arith)
numbered refusals.States h = absurd (omega arith)
numbered refusals.Transition h = absurd (omega arith)
numbered refusals.FormShort h = absurd (omega arith)
numbered refusals.Form h = absurd (omega arith)
numbered refusals.WorkShort h = absurd (omega arith)
numbered refusals.TreeShort h = absurd (omega arith)
numbered refusals.NoPlace h = absurd (omega arith)
numbered refusals.TreeLong h = absurd (omega arith)
numbered refusals.Tree h = absurd (omega arith)
numbered refusals.SheetShort h = absurd (omega arith)
numbered refusals.TallyFull h = absurd (omega arith)
numbered refusals.Candidate h = absurd (omega arith)
numbered refusals.DrawnRules h = absurd (omega arith)
numbered refusals.OtherAlphabet h = absurd (omega arith)
numbered refusals.NewTransition h = absurd (omega arith)
