-- A rule of a valid table depends on a terminal by its four slots as by the rules that it calls, because a slot that is not used has no flag.
use mathlib.Core.Path.{◌≡◌, refl, sym, ap, ap₂, subst, ◌∙◌}
use mathlib.Core.Bool.{Bool, true, false, not, ◌&&◌, ◌||◌}
use mathlib.Core.List.{List, [], ◌∷◌, ◌++◌}
use Prim.Native.Nat.{ℕ, zero, suc, ◌+◌, ◌-◌, ◌≤◌, ◌<◌}
use native.Mathlib.Omega.{arith}
use lib.Dec.{T, ltb, eqb, eqb→eq}
use lib.ListN.{length, get_or-eq_default}
use borrow.Author.Tests.{ltb-false, le-ltb, eq-eqb, not-true}
use Rattle.terms.specs.Test.{any, some, tabulate}
use Rattle.terms.specs.Refusal.{outside}
use Rattle.terms.specs.Grammar.{terminal_rank}
use Rattle.terms.specs.FormBytes.{table_count, rule_byte, slot_of, rule_of_kind, table_rule, calls_lower, unused, unused_slot, slot_fits, slots_fit, chain_fits, kind_fits, rule_fits, most_form_rules}
use Rattle.terms.proofs.Test.{is_true, of_true, both_1, parts, or_false, every_at}
use Rattle.relations.proofs.Laws.{some_add, some_gap, any-tabulate}
use Rattle.forms.specs.Private.Table.{ValidTable}
use Rattle.forms.proofs.Rules.{rank-low}
use Rattle.form_bytes.specs.Fields.{fields_at}
use Rattle.adding_terms.specs.Dependence.{calls_of, has_terminal, depends_of}
use Rattle.redoing.specs.Redoing.{flag_of, depends_by}

any_append : (d : ℕ → Bool) (xs ys : List ℕ) → any d (xs ++ ys) ≡ any d xs || any d ys
unfolding any
any_append d [] ys = refl
any_append d (x ∷ xs) ys = rw (any_append d xs ys) (or_assoc (d x) (any d xs) (any d ys))
  where
    or_assoc : (a b c : Bool) → a || (b || c) ≡ (a || b) || c
    or_assoc true b c = refl
    or_assoc false b c = refl

-- a test that the number of an unused slot does not pass
module _ (table : List ℕ) (i : ℕ) (d : ℕ → Bool) (none : d unused ≡ false) where
  abbrev slot : ℕ → ℕ
  slot = slot_of table i

  fails : (j : ℕ) → T (unused_slot (slot j)) → d (slot j) ≡ false
  fails j u = rw (eqb→eq (slot j) unused u) none

  module _ (n h : ℕ) (low : n ≤ 4) (fits : T (slots_fit table i n h)) where
    slot_fits_lem : (j : ℕ) → j < 4 → T (slot_fits table i n h j)
    slot_fits_lem = every_at 4 (slot_fits table i n h) fits

    behind_fails : (j : ℕ) → n ≤ j → j < 4 → d (slot j) ≡ false
    behind_fails j m l = fails j (rw (le-ltb j n m) at (slot_fits_lem j l))

    within-four : some n (λ j. d (slot j)) ≡ some 4 (λ j. d (slot j))
    within-four = some_gap n 4 (λ j. d (slot j)) low behind_fails

    whole-slots : any d (tabulate n slot) ≡ some 4 (λ j. d (slot j))
    whole-slots = any-tabulate n slot d ∙ within-four

    open_fails : (j : ℕ) → suc j ≡ h → h ≤ n → d (slot j) ≡ false
    open_fails j e m = fails j (rw (eq-eqb (suc j) h e, both_false (ltb j n)) at (slot_fits_lem j (omega arith)))
      where
        both_false : (b : Bool) → (b && false) ≡ false
        both_false true = refl
        both_false false = refl

    pierced-slots : 1 ≤ h → h ≤ n → any d (tabulate (h - 1) slot ++ tabulate (n - h) (λ j. slot (h + j))) ≡ some 4 (λ j. d (slot j))
    unfolding some
    pierced-slots from to =
        let e : suc (h - 1) ≡ h = omega arith in
        let s : h + (n - h) ≡ n = omega arith in
        let left : some (h - 1) (λ j. d (slot j)) ≡ some h (λ j. d (slot j)) = subst (λ (k : ℕ). some (h - 1) (λ j. d (slot j)) ≡ some k (λ j. d (slot j))) e (rw (open_fails (h - 1) e to)) in
        any_append d (tabulate (h - 1) slot) (tabulate (n - h) (λ j. slot (h + j)))
        ∙ ap₂ ◌||◌ (any-tabulate (h - 1) slot d ∙ left) (any-tabulate (n - h) (λ j. slot (h + j)) d)
        ∙ sym (some_add h (n - h) (λ j. d (slot j))) ∙ ap (λ (k : ℕ). some k (λ j. d (slot j))) s ∙ within-four

  chain-slots : (f h k : ℕ) → T (chain_fits table i f h k) → any d (slot 0 ∷ slot 1 ∷ []) ≡ some 4 (λ j. d (slot j))
  unfolding any some
  chain-slots f h k p =
      let u2 = unused_slot (slot 2) in
      let u3 = unused_slot (slot 3) in
      let b = calls_lower table i 1 (slot 0) in
      let c = calls_lower table i k (slot 1) in
      let q = both_1 (eqb h 0) (b && (c && (u2 && u3))) (both_1 (eqb f 0xFF) (eqb h 0 && (b && (c && (u2 && u3)))) p) in
      let (n2, n3) = parts u2 u3 (both_1 c (u2 && u3) (both_1 b (c && (u2 && u3)) q)) in
      rw (fails 2 n2, fails 3 n3) (swap (d (slot 0)) (d (slot 1)))
    where
      swap : (a b : Bool) → (a || (b || false)) ≡ (b || (a || false))
      swap true true = refl
      swap true false = refl
      swap false true = refl
      swap false false = refl

  kind-slots : (kind t f n h : ℕ) → n ≤ 4 → T (kind_fits table i kind t f n h) → any d (calls_of (rule_of_kind kind f n h slot)) ≡ some 4 (λ j. d (slot j))
  kind-slots zero t f n h low p = whole-slots n h low (both_1 (eqb h 0) (slots_fit table i n h) (both_1 (ltb f t) (eqb h 0 && slots_fit table i n h) p))
  kind-slots (suc zero) t f n h low p =
      let (within, s) = parts (not (outside 1 n h)) (slots_fit table i n h) (both_1 (ltb f t) (not (outside 1 n h) && slots_fit table i n h) p) in
      let (a, b) = or_false (ltb h 1) (ltb n h) (not-true (outside 1 n h) (is_true (not (outside 1 n h)) within)) in
      pierced-slots n h low s (ltb-false h 1 a) (ltb-false n h b)
  kind-slots (suc (suc zero)) t f n h low p = chain-slots f h 0 p
  kind-slots (suc (suc (suc zero))) t f n h low p = chain-slots f h 1 p
  kind-slots (suc (suc (suc (suc kind)))) t f n h low p = absurd p

kind-terminal : (f kind g n h : ℕ) (slot : ℕ → ℕ) → has_terminal f (rule_of_kind kind g n h slot) ≡ ltb kind 2 && eqb g f
kind-terminal f zero g n h slot = refl
kind-terminal f (suc zero) g n h slot = refl
kind-terminal f (suc (suc zero)) g n h slot = refl
kind-terminal f (suc (suc (suc kind))) g n h slot = rw (le-ltb (suc (suc (suc kind))) 2 (omega arith))

-- the test by the fields of a rule is the test by the rules that it calls
pub depends_fields : (alphabet table : List ℕ) → ValidTable alphabet table → (i : ℕ) → i < table_count table → (flags : List Bool) → length flags ≡ most_form_rules → (f : ℕ)
    → depends_by (fields_at table i) flags f ≡ depends_of f (table_rule alphabet table i) (flag_of flags)
unfolding table_rule rule_fits tabulate
depends_fields alphabet table v i l flags long f =
    let kind = rule_byte table i 0 in
    let g = rule_byte table i 1 in
    let n = terminal_rank alphabet g in
    let h = rule_byte table i 2 in
    let fit = every_at (table_count table) (rule_fits alphabet table) (of_true _ v.fits) i l in
    let none : flag_of flags unused ≡ false = get_or-eq_default flags false (omega arith) in
    ap₂ ◌||◌ (sym (kind-terminal f kind g n h (slot_of table i)))
    (any-tabulate 4 (slot_of table i) (flag_of flags)
    ∙ sym (kind-slots table i (flag_of flags) none kind (length alphabet) g n h (rank-low alphabet table v g) (both_1 (eqb (rule_byte table i 3) 0) _ fit)))
