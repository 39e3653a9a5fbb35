-- What a call's answer says of its number, and of what is handed out through a pointer (document 01: a refusal is its number only).
use mathlib.Core.Path.{◌≡◌, refl}
use Prim.Native.Nat.{ℕ, zero, suc}
use native.Mathlib.Omega.{arith}
use Rattle.std.specs.Prelude.{Result, Ok, Err}
use Rattle.terms.specs.declared.refusals.Refusal.{Refusal}
use Rattle.terms.specs.Answer.{answer, answer_of, refusal_of}
use Rattle.capi.specs.Result.{result_after, value_or}

-- the number of an answer that is told by its refusal
pub number_said : {A : Type 0} (r : Result A Refusal) (n : ℕ) (v : A) → answer_of r ≡ answer n v → refusal_of r ≡ n
number_said (Ok x) zero v e = refl
number_said (Ok x) (suc n) v e = absurd (let z : ◌≡◌ {A = ℕ} 0 1 = cc in omega arith)
number_said (Err k) zero v e = absurd (let z : ◌≡◌ {A = ℕ} 0 1 = cc in omega arith)
number_said (Err k) (suc n) v e = cc

-- what stands behind the pointer then
pub value_said : (r : Result ℕ Refusal) (n v before : ℕ) → answer_of r ≡ answer n v → value_or r before ≡ result_after n v before
value_said (Ok x) zero v before e = cc
value_said (Ok x) (suc n) v before e = absurd (let z : ◌≡◌ {A = ℕ} 0 1 = cc in omega arith)
value_said (Err k) zero v before e = absurd (let z : ◌≡◌ {A = ℕ} 0 1 = cc in omega arith)
value_said (Err k) (suc n) v before e = refl

pub ruleset said = (number_said, value_said)
