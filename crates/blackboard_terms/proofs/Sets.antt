-- Sets as numbers: what is in a set that is made by a test, and two sets with the same states.
use mathlib.Core.Logic.{◌↔◌}
use mathlib.Core.Path.{◌≡◌, sym, ◌∙◌}
use mathlib.Core.Bool.{Bool, false}
use mathlib.Core.List.{List}
use Prim.Native.Nat.{ℕ, ◌^◌, ◌<◌}
use native.Mathlib.Omega.{arith}
use lib.Dec.{T}
use Rattle.terms.specs.Automaton.{has, set_of}
use Rattle.terms.proofs.Automaton.Bits.{has-set, has_above, set_lt, set_cong, set-whole}
use Rattle.terms.proofs.Automaton.Step.{has_lt}
use Rattle.terms.proofs.Test.{same_test}
use Rattle.blackboard_terms.specs.Step.{call_states}

pub set_in : (f : ℕ → Bool) (q : ℕ) → q < 8 → T (f q) → T (has (set_of 8 f) q)
set_in f q l h = rw (has-set 8 f q l) h

pub set_out : (f : ℕ → Bool) (q : ℕ) → T (has (set_of 8 f) q) → (q < 8) × T (f q)
set_out f q h =
    let l = has_lt (set_of 8 f) q (set_lt 8 f) h in
    (l, rw (has-set 8 f q l) at h)

pub has-none : (q : ℕ) → has 0 q ≡ false
has-none q = has_above 0 0 q (omega arith) (omega arith)

pub same_set : (x y : ℕ) → x < 2 ^ 8 → y < 2 ^ 8 → ((q : ℕ) → T (has x q) ↔ T (has y q)) → x ≡ y
same_set x y hx hy e =
    sym (set-whole 8 x hx) ∙ set_cong 8 (has x) (has y) (λ q l. same_test (has x q) (has y q) (e q).0 (e q).1) ∙ set-whole 8 y hy

-- the states of a call are a set
pub call_lt : (table sets : List ℕ) → call_states table sets < 2 ^ 8
unfolding call_states
call_lt table sets = set_lt 8 _
