-- Bytes put into a list at a place: what stands there then, and what is kept.
use mathlib.Core.Path.{◌≡◌, sym, ap, ◌∙◌}
use mathlib.Core.List.{List, ◌++◌}
use Prim.Native.Nat.{ℕ, ◌+◌, ◌*◌, ◌-◌, ◌≤◌, ◌<◌}
use native.Mathlib.Omega.{arith}
use borrow.Rule.Slice.PartMut.{put_mid}
use lib.ListN.{length, get_or, take, drop, length-append, length-drop, get_or-append}
use lib.Seq.{length-take-le, get_or-take, get_or-drop, get_or-append-add, drop-drop}
use Rattle.terms.specs.FormBytes.{rule_length}
use Rattle.form_bytes.specs.declared.rule.FormRule.{FormRule}
use Rattle.form_writing.specs.Bytes.{pasted, bytes_of, Kept, RuleWritten}

module _ (at : ℕ) (bytes l : List ℕ) (fits : at + length bytes ≤ length l) where
  -- its place in the parts of the new list
  seam : (k : ℕ) → get_or (pasted at bytes l) (at + k) 0 ≡ get_or (bytes ++ drop (at + length bytes) l) k 0
  seam k =
      let e = length-take-le at l (omega arith) in
      ap (λ n. get_or (pasted at bytes l) (n + k) 0) (sym e) ∙ get_or-append-add (take at l) (bytes ++ drop (at + length bytes) l) k 0

  pub pasted_at : (k : ℕ) → k < length bytes → get_or (pasted at bytes l) (at + k) 0 ≡ get_or bytes k 0
  pasted_at k h = seam k ∙ get_or-append bytes (drop (at + length bytes) l) 0 k h

  pub pasted-keeps : Kept at (length bytes) (pasted at bytes l) l
  pasted-keeps = record {
    long = omega (arith, length-append (take at l) (bytes ++ drop (at + length bytes) l), length-append bytes (drop (at + length bytes) l), length-take-le at l (omega arith), length-drop (at + length bytes) l);
    front = λ k h. get_or-append (take at l) _ 0 k (omega (arith, length-take-le at l (omega arith))) ∙ get_or-take at l k 0 h;
    behind = λ k h.
        (let n = k - (at + length bytes) in
        let a : k ≡ at + (length bytes + n) = omega arith in
        let b : at + length bytes + n ≡ k = omega arith in
        ap (λ m. get_or (pasted at bytes l) m 0) a ∙ seam (length bytes + n) ∙ get_or-append-add bytes (drop (at + length bytes) l) n 0 ∙ get_or-drop (at + length bytes) l n 0
        ∙ ap (λ m. get_or l m 0) b);
  }

-- the bytes of a rule, put over as many bytes at its place
pub rule-written : (number : ℕ) (rule : FormRule) (place size : ℕ) (written entry : List ℕ) → place ≡ rule_length * number → size ≡ rule_length
    → rule_length * number + rule_length ≤ length entry → written ≡ bytes_of rule → RuleWritten number rule (put_mid place size entry written) entry
rule-written number rule place size written entry at twelve fits is =
    let e : put_mid place size entry written ≡ pasted (rule_length * number) (bytes_of rule) entry =
    rw (at, twelve, is) (ap (λ (kept : List ℕ). take (rule_length * number) entry ++ (bytes_of rule ++ kept)) (drop-drop rule_length (rule_length * number) entry)) in
    rw e
    record { bytes = pasted_at (rule_length * number) (bytes_of rule) entry fits; kept = pasted-keeps (rule_length * number) (bytes_of rule) entry fits }
