-- `rule_tables::bytes::write_lanes` meets its contract: the bytes of a number, the low one first, are its lanes.
use mathlib.Core.Path.{◌≡◌, sym, ◌∙◌, ap}
use mathlib.Core.List.{List, ◌++◌}
use Prim.Native.Nat.{ℕ, ◌+◌, ◌-◌}
use native.Mathlib.Omega.{arith}
use lib.ListN.{length, get_or, take, drop, length-append, length-drop, get_or-append}
use lib.Seq.{get_or-append-add, get_or-take, get_or-drop, length-take-le}
use Rattle.lane_calls.proofs.Lanes.{bytes-lane}
use Rattle.rule_tables.proofs.bytes.write_lanes.Goals as goal

pub returns : goal.returns
returns c =
    let entry = c.args.bytes.now in
    let lanes = c.args.lanes in
    let part = c.copy_from_slice.new.self in
    let size : length part ≡ lanes = c.copy_from_slice.ensures.len ∙ length-take-le lanes entry c.requires.1 in
    let is : part ≡ take lanes c.to_le_bytes.result = c.copy_from_slice.ensures.after in
    record {
      long = omega (arith, length-append part (drop lanes entry), length-drop lanes entry, size, c.requires.1);
      written = λ k h. get_or-append part (drop lanes entry) 0 k (omega arith) ∙ ap (λ (l : List ℕ). get_or l k 0) is ∙ get_or-take lanes c.to_le_bytes.result k 0 h
          ∙ ap (λ (l : List ℕ). get_or l k 0) c.to_le_bytes.ensures ∙ bytes-lane c.args.relation k (omega (arith, c.requires.0));
      kept = λ k h. (
          let place : length part + (k - lanes) ≡ k = omega arith in
          ap (λ (m : ℕ). get_or (part ++ drop lanes entry) m 0) (sym place) ∙ get_or-append-add part (drop lanes entry) (k - lanes) 0 ∙ get_or-drop lanes entry (k - lanes) 0
          ∙ ap (λ (m : ℕ). get_or entry m 0) (omega arith)
          );
    }
