-- A tree as the only rule of a sheet.
use mathlib.Core.Path.{◌≡◌}
use mathlib.Core.List.{List, [], ◌∷◌}
use Prim.Native.Nat.{ℕ, ◌+◌, ◌-◌, ◌≤◌}
use native.Mathlib.Omega.{arith}
use borrow.Rule.Slice.PartMut.{put_mid}
use lib.ListN.{length, take, set}
use Rattle.std.proofs.lemmas.Slice.{take-put_mid}

-- a rank 0 and a node count, and the nodes behind them
pub rule_put : (rules tree : List ℕ) (n : ℕ) → 2 ≤ length rules → take (2 + length tree) (put_mid 2 (2 + length tree - 2) (set (set rules 0 0) 1 n) tree) ≡ 0 ∷ n ∷ tree
rule_put [] tree n h = absurd (omega arith)
rule_put (a ∷ []) tree n h = absurd (omega arith)
rule_put (a ∷ b ∷ rules) tree n h = take-put_mid 2 (2 + length tree - 2) (0 ∷ n ∷ rules) tree (2 + length tree) (omega arith) (omega arith)
