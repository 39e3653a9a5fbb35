use mathlib.Core.Path.{◌≡◌, ◌∙◌}
use mathlib.Core.List.{List}
use Prim.Native.Nat.{ℕ, ◌+◌, ◌<◌}
use native.Mathlib.Omega.{arith}
use native.Mathlib.Decide.{dec_lt}
use lib.ListN.{length, get_or, set, length-set}
use lib.Seq.{get_or-set_same, get_or-set_other}
use Rattle.std.proofs.lemmas.List.{ext_get_or}
use Rattle.copying.proofs.copy.Goals as goal

-- one byte more
copied_more : (from to : List ℕ) (i : ℕ) → i < length to → ((k : ℕ) → k < i → get_or to k 0 ≡ get_or from k 0)
    → (k : ℕ) → k < i + 1 → get_or (set to i (get_or from i 0)) k 0 ≡ get_or from k 0
copied_more from to i h before k l = go (dec_lt k i)
  where
    go : Dec (k < i) → get_or (set to i (get_or from i 0)) k 0 ≡ get_or from k 0
    go (yes m) = get_or-set_other to i k (get_or from i 0) 0 (λ e. omega arith) ∙ before k m
    go (no m) =
        let e : k ≡ i = omega arith in
        rw e (get_or-set_same to i (get_or from i 0) 0 h)

pub loop-i-preserved : goal.loop-i-preserved
loop-i-preserved c =
    let inv = c.loop-i.invariant in
    (simp length-set inv.0, copied_more _ _ _ (omega (arith, inv.0)) inv.1)

pub returns : goal.returns
returns c =
    let inv = c.loop-i.invariant in
    ext_get_or 0 _ _ inv.0 (λ k h. inv.1 k (omega (arith, inv.0)))
