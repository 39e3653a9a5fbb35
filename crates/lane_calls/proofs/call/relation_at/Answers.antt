-- `lane_calls::call::relation_at` meets its contract: the lanes of a number are its bytes, the low one first.
use mathlib.Core.Path.{◌≡◌, sym, ap, ◌∙◌}
use mathlib.Core.List.{List}
use Prim.Native.Nat.{ℕ, ◌+◌, ◌*◌, ◌≤◌, ◌<◌}
use native.Mathlib.Nat.{add-sub_cancel_left}
use native.Mathlib.Omega.{arith}
use native.Mathlib.Decide.{dec_lt}
use lib.ListN.{length, get_or, take, drop, get_or-eq_default}
use lib.Seq.{get_or-take, get_or-drop}
use Rattle.std.proofs.lemmas.Nat.{le_bytes_8}
use Rattle.lane_calls.proofs.Lanes.{filled-matrix, bytes-lane}
use Rattle.lane_calls.proofs.call.relation_at.Goals as goal

pub returns : goal.returns
returns c =
    let x = c.from_le_bytes.result in
    let bytes = c.copy_from_slice.new.self in
    let start = 8 * c.args.choice in
    let are : bytes ≡ take 8 (drop start c.args.table.now) = rw (add-sub_cancel_left start 8) at c.copy_from_slice.ensures.after in
    let byte : (p : ℕ) → p < 8 → get_or bytes p 0 ≡ get_or c.args.table.now (start + p) 0 =
    λ p hp. rw are (get_or-take 8 (drop start c.args.table.now) p 0 hp ∙ get_or-drop start c.args.table.now p 0) in
    let small : (p : ℕ) → get_or bytes p 0 < 256 =
    λ p. elim (dec_lt p 8) [
      | yes hp ↦ rw (byte p hp) (omega (arith, c.type_inv.table (start + p)))
      | no hp ↦
          let past : length bytes ≤ p = omega (arith, c.copy_from_slice.ensures.len) in
          rw (get_or-eq_default bytes 0 past) (omega arith)
    ] in
    let back = le_bytes_8 bytes x c.copy_from_slice.ensures.len small c.from_le_bytes.ensures in
    filled-matrix (λ p. get_or c.args.table.now (start + p) 0) x (
      omega arith,
      λ p hp. sym (bytes-lane x p hp) ∙ ap (λ (l : List ℕ). get_or l p 0) back ∙ byte p hp,
    )
