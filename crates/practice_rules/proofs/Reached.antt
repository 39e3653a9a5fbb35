-- What the loop over the rules has reached after n rules.
use Rattle.std.proofs.Common.{◌≡◌, ℕ, zero, suc, ◌+◌, ◌*◌, ◌-◌, ◌<◌, ◌≤◌, List, [], ◌∷◌, ◌++◌, length, take, drop, sym, refl, ap, ◌∙◌, arith, length-append, length-take-le}
use lib.Seq.{take-append_seam, take-append-add}
use Rattle.terms.specs.Sheet.{written_rule, written_rules}
use Rattle.practice_terms.specs.Practice.{last_rule, practice_rules}
use Rattle.practice_rules.specs.Drawn.{after_rule, bytes_from, Copied, Drawn}
use Rattle.practice_rules.proofs.Numbers.{after_rules}
use Rattle.practice_rules.proofs.Written.{written, written_zero, written-more, written_last, written-most}

-- bytes that are put behind what is done
put_behind : (done bytes entry exit : List ℕ) (at : ℕ) → at ≤ length entry → take at entry ≡ done → Copied bytes at exit entry
    → take (at + length bytes) exit ≡ done ++ bytes
put_behind done bytes entry exit at h e w =
    let l : length (take at entry) ≡ at = length-take-le at entry h in
    let rest = drop (at + length bytes) entry in
    rw (w, ← e)
    (ap (λ n. take (n + length bytes) (take at entry ++ (bytes ++ rest))) (sym l)
    ∙ take-append-add (take at entry) (bytes ++ rest) (length bytes)
    ∙ ap (λ bs. take at entry ++ bs) (take-append_seam bytes rest))

-- the end and the bytes after n rules
pub record Done (x n end : ℕ) (rules : List ℕ) : Type 0 where
  pub ends : end ≡ length (written n x)
  pub bytes : take end rules ≡ written n x

-- how much is written by then
pub done_most : {x n end : ℕ} {rules : List ℕ} → Done x n end rules → end ≤ 4 + 6 * n
done_most {x} {n} d = omega (arith, d.ends, written-most n x)

-- the number that the generator has come to by then, and what is done
pub record Reached (x n y end : ℕ) (rules : List ℕ) : Type 0 where
  pub number : y ≡ after_rules n x
  pub done : Done x n end rules

-- rule 0
pub reached_first : (x : ℕ) (exit entry : List ℕ) → Copied (1 ∷ 2 ∷ 1 ∷ 0x80 ∷ []) 0 exit entry → Reached x 0 x 4 exit
unfolding after_rules
reached_first x exit entry w =
    let e = written_zero x in
    record { number = refl; done = record { ends = ap length (sym e); bytes = ap (take 4) w ∙ sym e } }

-- rule i
pub reached_more : (x i : ℕ) {y end y' end' : ℕ} {exit entry : List ℕ} → 0 < i → Reached x (i - 1) y end entry → end ≤ length entry
    → Drawn y i end y' end' exit entry → Reached x i y' end' exit
unfolding after_rules
reached_more x zero z r h d = absurd (omega arith)
reached_more x (suc n) {y} {end} {y'} {end'} {exit} {entry} z before h d =
    let below : suc n - 1 ≡ n = omega arith in
    let r = rw below at before in
    let same : y ≡ after_rules n x = r.number in
    let bytes = bytes_from (suc n) (after_rules n x) in
    let w : Copied bytes end exit entry = rw (← same) d.copied in
    let e : end' ≡ end + length bytes = rw (← same) d.ends in
    let more = written-more n x in
    record {
      number = d.number ∙ ap after_rule same;
      done = record {
        ends = omega (arith, e, r.done.ends, ap length more, length-append (written n x) bytes);
        bytes = rw (e, more) (put_behind (written n x) bytes entry exit end h r.done.bytes w);
      };
    }

-- the last rule
pub done_last : (x m : ℕ) {end : ℕ} {exit entry : List ℕ} → Done x m end entry → end ≤ length entry → Copied (written_rule (last_rule m)) end exit entry
    → (end + 4 ≡ length (written_rules (practice_rules x m))) × (take (end + 4) exit ≡ written_rules (practice_rules x m))
done_last x m {end} {exit} {entry} d h w =
    let last = written_rule (last_rule m) in
    let e = written_last x m in
    (omega (arith, d.ends, ap length e, length-append (written m x) last), put_behind (written m x) last entry exit end h d.bytes w ∙ sym e)
