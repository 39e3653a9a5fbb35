-- The relation of a parameter's node, lane by lane.
use mathlib.Core.Path.{◌≡◌, ◌∙◌, ap}
use Prim.Native.Nat.{ℕ, zero, suc, ◌+◌, ◌-◌, ◌*◌, ◌/◌, ◌%◌, ◌^◌, ◌<◌}
use native.Mathlib.Omega.{arith}
use lib.Dec.{eqb, eqb→eq}
use Rattle.terms.specs.Test.{every}
use Rattle.terms.proofs.Test.{every_at}
use Rattle.blackboard_terms.specs.Blackboard.{state_at}
use Rattle.blackboard_terms.specs.Step.{lane}

-- the first parameter has the state of its lane
pub identity-lane : (choice p : ℕ) → p < 8 → lane 0x8040_2010_0804_0201 p ≡ 2 ^ state_at (8 * choice + p) 0
unfolding lane every state_at
identity-lane choice p h =
    let e : (8 * choice + p) / 8 ^ 0 % 8 ≡ p = omega arith in
    rw e (eqb→eq _ _ (every_at 8 (λ k. eqb (lane 0x8040_2010_0804_0201 k) (2 ^ k)) tt p h))

-- a state in each lane
same-lane : (s p : ℕ) → s < 8 → p < 8 → lane (0x0101_0101_0101_0101 * 2 ^ s % 2 ^ 64) p ≡ 2 ^ s
unfolding lane every
same-lane s p hs hp =
    eqb→eq _ _
    (every_at 8 (λ k. eqb (lane (0x0101_0101_0101_0101 * 2 ^ s % 2 ^ 64) k) (2 ^ s))
    (every_at 8 (λ t. every 8 (λ k. eqb (lane (0x0101_0101_0101_0101 * 2 ^ t % 2 ^ 64) k) (2 ^ t))) tt s hs) p hp)

-- any other parameter has its state in the choice
other_state : (choice p j : ℕ) → p < 8 → 0 < j → j < 4 → choice / 2 ^ (3 * (j - 1)) % 8 ≡ state_at (8 * choice + p) j
unfolding state_at
other_state choice p zero h l m = absurd (omega arith)
other_state choice p (suc zero) h l m = omega arith
other_state choice p (suc (suc zero)) h l m = omega arith
other_state choice p (suc (suc (suc zero))) h l m = omega arith
other_state choice p (suc (suc (suc (suc j)))) h l m = absurd (omega arith)

pub other_lane : (choice p j : ℕ) → p < 8 → 0 < j → j < 4 → lane (0x0101_0101_0101_0101 * 2 ^ (choice / 2 ^ (3 * (j - 1)) % 8) % 2 ^ 64) p ≡ 2 ^ state_at (8 * choice + p) j
other_lane choice p j h l m = same-lane (choice / 2 ^ (3 * (j - 1)) % 8) p (omega arith) h ∙ ap (λ (s : ℕ). 2 ^ s) (other_state choice p j h l m)
