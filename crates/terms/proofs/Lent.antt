-- A lent slice after a call: kept where the call was refused, else written at its front.
use mathlib.Core.Path.{◌≡◌, refl}
use mathlib.Core.List.{List, ◌++◌}
use Prim.Native.Nat.{ℕ, zero, suc}
use native.Mathlib.Omega.{arith}
use lib.ListN.{length, drop}
use Rattle.terms.specs.Calls.{lent_after}

pub lent_kept : {r n : ℕ} (written entry : List ℕ) → r ≡ n → (r ≡ 0 → ⊥) → entry ≡ lent_after n written entry
lent_kept {n = zero} written entry e h = absurd (h e)
lent_kept {n = suc n} written entry e h = refl

pub lent_written : {r n : ℕ} {exit : List ℕ} (written entry : List ℕ) → r ≡ n → r ≡ 0 → exit ≡ written ++ drop (length written) entry → exit ≡ lent_after n written entry
lent_written {n = zero} written entry e z h = h
lent_written {n = suc n} written entry e z h = absurd (omega arith)
