-- Pieces written one behind the other.
use mathlib.Core.Path.{◌≡◌, refl, sym, ◌∙◌}
use mathlib.Core.List.{List, ◌++◌, append_assoc}
use Prim.Native.Nat.{ℕ, ◌+◌, ◌-◌, ◌<◌}
use native.Mathlib.Omega.{arith}
use borrow.Rule.Slice.PartMut.{put_mid}
use lib.ListN.{length, drop, length-append}
use lib.Seq.{take-append_seam, drop-append_seam, drop-drop}
use Rattle.terms.specs.Sheet.{contents_of, sheet_of}
use Rattle.terms.proofs.Sheet.Write.{length-sheet}
use Rattle.sheet_bytes.specs.Put.{Put}

-- a piece behind what is written, and then what was there
piece : (done from s : List ℕ) (at end : ℕ) → at ≡ length done → end ≡ at + length from → put_mid at (end - at) (done ++ drop at s) from ≡ (done ++ from) ++ drop end s
piece done from s at end h k =
    let n : end - at ≡ length from = omega arith in
    rw (n, k, h, take-append_seam done (drop (length done) s), drop-append_seam done (drop (length done) s), drop-drop (length from) (length done) s)
    (sym (append_assoc done from _))

-- four pieces one behind the other
pieces : (p₁ p₂ p₃ p₄ s : List ℕ) (a b c d : ℕ) → a ≡ length p₁ → b ≡ a + length p₂ → c ≡ b + length p₃ → d ≡ c + length p₄
    → put_mid c (d - c) (put_mid b (c - b) (put_mid a (b - a) (p₁ ++ drop a s) p₂) p₃) p₄ ≡ (p₁ ++ (p₂ ++ (p₃ ++ p₄))) ++ drop d s
pieces p₁ p₂ p₃ p₄ s a b c d ha hb hc hd =
    rw (
      piece p₁ p₂ s a b ha hb,
      piece (p₁ ++ p₂) p₃ s b c (omega (arith, length-append p₁ p₂)) hc,
      piece ((p₁ ++ p₂) ++ p₃) p₄ s c d (omega (arith, length-append p₁ p₂, length-append (p₁ ++ p₂) p₃)) hd,
      append_assoc (p₁ ++ p₂) p₃ p₄,
      append_assoc p₁ p₂ (p₃ ++ p₄),
    )

-- the pieces of a sheet
pub sheet_put : (alphabet rules automaton s : List ℕ) →
    let a = 12 + length alphabet in
    let b = a + length rules in
    let c = b + length automaton in
    12 + (length alphabet + (length rules + length automaton)) < 65536
    → Put c (put_mid b (c - b) (put_mid a (b - a) (put_mid 12 (a - 12) (contents_of (length alphabet) (length rules) (length automaton) ++ drop 12 s) alphabet) rules) automaton)
    (sheet_of alphabet rules automaton) s
unfolding sheet_of
sheet_put alphabet rules automaton s fits =
    let n : 12 + length alphabet + length rules + length automaton ≡ length (sheet_of alphabet rules automaton) = omega (arith, length-sheet alphabet rules automaton fits) in
    record { answer = n; slice = pieces (contents_of (length alphabet) (length rules) (length automaton)) alphabet rules automaton s 12 _ _ _ refl refl refl refl ∙ rw n }
