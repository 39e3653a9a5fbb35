-- Checks and calls in turn, as `?` hands a refusal on: what the definitions say behind a check that refuses, and behind one that does not.
use mathlib.Core.Path.{◌≡◌, refl, ap, sym}
use mathlib.Core.List.{List, ◌++◌}
use Prim.Native.Nat.{ℕ, zero, suc}
use native.Mathlib.Omega.{arith}
use lib.ListN.{length, drop}
use Rattle.terms.specs.declared.refusals.Refusal.{Refusal}
use Rattle.terms.specs.Answer.{Answer, refused, answered, answer, number_of}
use Rattle.terms.specs.Refusal.{or_else}
use Rattle.terms.specs.Calls.{lent_after}
use Rattle.terms.proofs.Refusal.{numbered}

-- a chain of checks
pub stopped : (e : Refusal) (n m : ℕ) → number_of e ≡ n → or_else n m ≡ number_of e
stopped e zero m h = absurd (numbered e h)
stopped e (suc n) m h = sym h

pub went_on : (n m : ℕ) → 0 ≡ n → or_else n m ≡ m
went_on zero m h = refl
went_on (suc n) m h = absurd (omega arith)

-- what a call answers
pub answers_refusal : {A : Type 0} (e : Refusal) (n : ℕ) (value : A) → number_of e ≡ n → answer n value ≡ refused (number_of e)
answers_refusal e zero value h = absurd (numbered e h)
answers_refusal e (suc n) value h = ap refused (sym h)

pub answers_value : {A : Type 0} (n : ℕ) (value : A) → 0 ≡ n → answer n value ≡ answered value
answers_value zero value h = refl
answers_value (suc n) value h = absurd (omega arith)

-- how a call leaves a lent slice
pub leaves_entry : (e : Refusal) (n : ℕ) (written entry : List ℕ) → number_of e ≡ n → lent_after n written entry ≡ entry
leaves_entry e zero written entry h = absurd (numbered e h)
leaves_entry e (suc n) written entry h = refl

pub leaves_written : (n : ℕ) (written entry : List ℕ) → 0 ≡ n → lent_after n written entry ≡ written ++ drop (length written) entry
leaves_written zero written entry h = refl
leaves_written (suc n) written entry h = absurd (omega arith)

pub ruleset in_turn = (stopped, went_on, answers_refusal, answers_value, leaves_entry, leaves_written)
