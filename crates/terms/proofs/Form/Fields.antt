-- Bytes that hold the rules of a valid form, with their number, the start and the alphabet in the head, are a valid form that derives what the start derives.
use mathlib.Core.Path.{◌≡◌, refl, sym, ap, ◌∙◌}
use mathlib.Core.Bool.{true, not, ◌&&◌}
use mathlib.Core.List.{List, [], ◌∷◌, ◌++◌}
use Prim.Native.Nat.{ℕ, zero, suc, ◌+◌, ◌-◌, ◌≤◌, ◌<◌}
use native.Mathlib.Omega.{arith}
use native.Mathlib.Decide.{dec_lt}
use borrow.Author.Tests.{lt-ltb, le-ltb, eq-eqb, ne_eqb}
use lib.Dec.{T, ltb, eqb}
use lib.ListN.{length, get_or, get_or-append, get_or-eq_default, length-append}
use lib.Seq.{get_or-append-add, get_or-append_seam}
use Rattle.terms.specs.Test.{every}
use Rattle.terms.specs.Refusal.{outside}
use Rattle.terms.specs.Grammar.{terminal_rank, Arity}
use Rattle.terms.specs.Check.{alphabet_refusal}
use Rattle.terms.specs.Form.{Rule, whole, pierced, filled, composed, tree_in, value_at, rule_at, holes, Has, Slots, Fits, Valid}
use Rattle.terms.specs.FormBytes.{rule_count, start_of, terminal_count, head_alphabet, table_of, table_count, form_length, rule_byte, slot_of, rank_at, table_rule, table_rules, form_rules, form_tree, calls_lower, slot_fits, slots_fit, unused, chain_fits, kind_fits, rule_fits, most_form_rules, valid_form, same_alphabet, form_refusal, fields_of}
use Rattle.terms.proofs.Test.{of_true, is_true, both, every_of}
use Rattle.terms.proofs.Tabulate.{tabulated}
use Rattle.terms.proofs.Form.Bytes.{rank_le, is_same, table_count_lem}
use Rattle.terms.proofs.Sheet.Passed.{alphabet_passed}

-- slots in front of a hole, the hole, and slots behind it
module _ (ls rs : List ℕ) where
  before-hole : (j : ℕ) → j < length ls → get_or (ls ++ (unused ∷ rs)) j unused ≡ get_or ls j unused
  before-hole j h = get_or-append ls (unused ∷ rs) unused j h

  behind-hole : (j : ℕ) → get_or (ls ++ (unused ∷ rs)) (suc (length ls) + j) unused ≡ get_or rs j unused
  behind-hole j =
      let e : suc (length ls) + j ≡ length ls + suc j = omega arith in
      rw e (get_or-append-add ls (unused ∷ rs) (suc j) unused)

-- each slot is a lower rule of rank 0
slot_has : (rules : List Rule) (n : ℕ) (slots : List ℕ) → Slots rules n slots → (j : ℕ) → j < length slots → Has rules n 0 (get_or slots j unused)
slot_has rules n [] p j h = absurd (omega arith)
slot_has rules n (a ∷ slots) p zero h = p.0
slot_has rules n (a ∷ slots) p (suc j) h = slot_has rules n slots p.1 j (omega arith)

-- the four bytes and the four slots of rule i
pub record Fields (table : List ℕ) (i k f h : ℕ) (slots : List ℕ) : Type 0 where
  pub kind : rule_byte table i 0 ≡ k
  pub terminal : rule_byte table i 1 ≡ f
  pub hole : rule_byte table i 2 ≡ h
  pub fourth : rule_byte table i 3 ≡ 0
  pub slot : (j : ℕ) → j < 4 → slot_of table i j ≡ get_or slots j unused

-- rule i is written as a rule
abbrev pub Says : List ℕ → ℕ → Rule → Type 0
Says table i r = Fields table i (fields_of r).kind (fields_of r).terminal (fields_of r).hole (fields_of r).slots

kind-holes : (table : List ℕ) (i : ℕ) (r : Rule) → Says table i r → rank_at table i ≡ holes r
kind-holes table i (whole f slots) e = rw e.kind
kind-holes table i (pierced f ls rs) e = rw e.kind
kind-holes table i (filled b c) e = rw e.kind
kind-holes table i (composed b c) e = rw e.kind

module _ (alphabet table : List ℕ) (rules : List Rule) (low : (f : ℕ) → terminal_rank alphabet f ≤ 4) (valid : Valid alphabet rules) (says : (i : ℕ) → i < length rules → Says table i (rule_at rules i)) where
  -- the rule that the bytes say

  whole-read : (i f : ℕ) (slots : List ℕ) → Says table i (whole f slots) → Arity alphabet f (length slots) → table_rule alphabet table i ≡ whole f slots
  unfolding table_rule
  whole-read i f slots e a =
      let n = length slots in
      let l = low f in
      rw (e.kind, e.terminal, ← a.rank)
      (ap (whole f) (tabulated n (slot_of table i) unused slots refl (λ j m. e.slot j (omega (arith, a.rank)))))

  pierced-read : (i f : ℕ) (ls rs : List ℕ) → Says table i (pierced f ls rs) → Arity alphabet f (length ls + suc (length rs))
      → table_rule alphabet table i ≡ pierced f ls rs
  unfolding table_rule
  pierced-read i f ls rs e a =
      let h = suc (length ls) in
      let l = low f in
      let n : length ls + suc (length rs) - h ≡ length rs = omega arith in
      let m : h - 1 ≡ length ls = omega arith in
      let front = tabulated (length ls) (slot_of table i) unused ls refl (λ j m. e.slot j (omega (arith, a.rank)) ∙ before-hole ls rs j m) in
      let back = tabulated (length rs) (λ j. slot_of table i (h + j)) unused rs refl (λ j m. e.slot (h + j) (omega (arith, a.rank)) ∙ behind-hole ls rs j) in
      rw (e.kind, e.terminal, e.hole, ← a.rank, n, back)
      (rw m (ap (λ xs. pierced f xs rs) front))

  filled-read : (i b c : ℕ) → Says table i (filled b c) → table_rule alphabet table i ≡ filled b c
  unfolding table_rule
  filled-read i b c e = rw (e.kind, e.slot 0 (omega arith), e.slot 1 (omega arith))

  composed-read : (i b c : ℕ) → Says table i (composed b c) → table_rule alphabet table i ≡ composed b c
  unfolding table_rule
  composed-read i b c e = rw (e.kind, e.slot 0 (omega arith), e.slot 1 (omega arith))

  fields_read : (i n : ℕ) (r : Rule) → Says table i r → Fits alphabet rules n r → table_rule alphabet table i ≡ r
  fields_read i n (whole f slots) e p = whole-read i f slots e p.1
  fields_read i n (pierced f ls rs) e p = pierced-read i f ls rs e p.2
  fields_read i n (filled b c) e p = filled-read i b c e
  fields_read i n (composed b c) e p = composed-read i b c e

  rule-read : (i : ℕ) → i < length rules → table_rule alphabet table i ≡ rule_at rules i
  rule-read i h = fields_read i i (rule_at rules i) (says i h) (valid.fits i h)

  -- the bytes keep what is asked of a rule

  calls : (i k a : ℕ) → i ≤ length rules → Has rules i k a → T (calls_lower table i k a)
  calls i k a l h =
      let e = kind-holes table a (rule_at rules a) (says a (omega (arith, h.below))) ∙ h.rank in
      both (ltb a i) (eqb (rank_at table a) k) (of_true _ (lt-ltb a i h.below)) (of_true _ (eq-eqb (rank_at table a) k e))

  module _ (i : ℕ) (inside : i < length rules) where
    -- a slot that calls, and one that is not used
    used_fits : (n h j : ℕ) → j < n → (suc j ≡ h → ⊥) → Has rules i 0 (slot_of table i j) → T (slot_fits table i n h j)
    used_fits n h j l ne p = rw (lt-ltb j n l, ne_eqb (suc j) h ne) (calls i 0 (slot_of table i j) (omega arith) p)

    past_fits : (n h j : ℕ) → n ≤ j → slot_of table i j ≡ unused → T (slot_fits table i n h j)
    past_fits n h j l e = rw (le-ltb j n l, e) tt

    hole-fits : (n j : ℕ) → j < n → slot_of table i j ≡ unused → T (slot_fits table i n (suc j) j)
    hole-fits n j l e = rw (lt-ltb j n l, eq-eqb (suc j) (suc j) refl, e) tt

    whole-slots : (f : ℕ) (slots : List ℕ) → Says table i (whole f slots) → Slots rules i slots → T (slots_fit table i (length slots) 0)
    whole-slots f slots e p = every_of 4 (slot_fits table i (length slots) 0) (λ j l. go j (e.slot j l) (dec_lt j (length slots)))
      where
        go : (j : ℕ) → slot_of table i j ≡ get_or slots j unused → Dec (j < length slots) → T (slot_fits table i (length slots) 0 j)
        go j s (yes h) = used_fits (length slots) 0 j h (λ z. omega arith) (rw s (slot_has rules i slots p j h))
        go j s (no h) = past_fits (length slots) 0 j (omega arith) (s ∙ get_or-eq_default slots unused {n = j} (omega arith))

    module _ (f : ℕ) (ls rs : List ℕ) (e : Says table i (pierced f ls rs)) (p : Slots rules i ls) (q : Slots rules i rs) where
      abbrev slots : List ℕ
      slots = ls ++ (unused ∷ rs)

      abbrev n : ℕ
      n = length ls + suc (length rs)

      abbrev h : ℕ
      h = suc (length ls)

      slot_pierced : (j : ℕ) → slot_of table i j ≡ get_or slots j unused → Dec (j < length ls) → Dec (length ls < j) → Dec (j < n) → T (slot_fits table i n h j)
      slot_pierced j s (yes a) b c = used_fits n h j (omega arith) (λ z. omega arith) (rw (s, before-hole ls rs j a) (slot_has rules i ls p j a))
      slot_pierced j s (no a) (no b) c =
          let z : j ≡ length ls = omega arith in
          rw z (hole-fits n (length ls) (omega arith) (rw z at s ∙ get_or-append_seam ls unused rs unused))
      slot_pierced j s (no a) (yes b) (yes c) =
          let k = j - h in
          let z : j ≡ h + k = omega arith in
          let g : slot_of table i j ≡ get_or rs k unused = s ∙ ap (λ x. get_or slots x unused) z ∙ behind-hole ls rs k in
          used_fits n h j c (λ z. omega arith) (rw g (slot_has rules i rs q k (omega arith)))
      slot_pierced j s (no a) (yes b) (no c) =
          let m : length slots ≤ j = omega (arith, length-append ls (unused ∷ rs)) in
          past_fits n h j (omega arith) (s ∙ get_or-eq_default slots unused {n = j} m)

      pierced-slots : T (slots_fit table i n h)
      pierced-slots = every_of 4 (slot_fits table i n h) (λ j l. slot_pierced j (e.slot j l) (dec_lt j (length ls)) (dec_lt (length ls) j) (dec_lt j n))

    chain : (kind k b c : ℕ) → Fields table i kind 0xFF 0 (b ∷ c ∷ []) → Has rules i 1 b → Has rules i k c
        → T (chain_fits table i (rule_byte table i 1) (rule_byte table i 2) k)
    chain kind k b c e p q =
        rw (e.terminal, e.hole, e.slot 0 (omega arith), e.slot 1 (omega arith), e.slot 2 (omega arith), e.slot 3 (omega arith))
        (both (calls_lower table i 1 b) (calls_lower table i k c && true) (calls i 1 b (omega arith) p) (both (calls_lower table i k c) true (calls i k c (omega arith) q) tt))

    known : (f k : ℕ) → Arity alphabet f k → T (ltb f (length alphabet))
    known f k a = of_true _ (lt-ltb f (length alphabet) a.known)

    kind_fits_lem : (r : Rule) → Says table i r → Fits alphabet rules i r
        → T (kind_fits table i (rule_byte table i 0) (length alphabet) (rule_byte table i 1) (terminal_rank alphabet (rule_byte table i 1)) (rule_byte table i 2))
    kind_fits_lem (whole f slots) e p =
        rw (e.kind, e.terminal, e.hole, ← p.1.rank)
        (both (ltb f (length alphabet)) (slots_fit table i (length slots) 0) (known f (length slots) p.1) (whole-slots f slots e p.0))
    kind_fits_lem (pierced f ls rs) e p =
        let n = length ls + suc (length rs) in
        let h = suc (length ls) in
        rw (e.kind, e.terminal, e.hole, ← p.2.rank)
        (both (ltb f (length alphabet)) (not (outside 1 n h) && slots_fit table i n h) (known f n p.2)
        (rw (le-ltb h 1 (omega arith), le-ltb n h (omega arith)) (pierced-slots f ls rs e p.0 p.1)))
    kind_fits_lem (filled b c) e p = rw e.kind (chain 2 0 b c e p.0 p.1)
    kind_fits_lem (composed b c) e p = rw e.kind (chain 3 1 b c e p.0 p.1)

    rule_fits_lem : T (rule_fits alphabet table i)
    unfolding rule_fits
    rule_fits_lem =
        let f = rule_byte table i 1 in
        both (eqb (rule_byte table i 3) 0) (kind_fits table i (rule_byte table i 0) (length alphabet) f (terminal_rank alphabet f) (rule_byte table i 2))
        (of_true _ (eq-eqb (rule_byte table i 3) 0 (says i inside).fourth)) (kind_fits_lem (rule_at rules i) (says i inside) (valid.fits i inside))

-- what the head of a form has, and how long the form is
pub record Head (alphabet form : List ℕ) (rules : List Rule) (start : ℕ) : Type 0 where
  pub counted : rule_count form ≡ length rules
  pub begun : start_of form ≡ start
  pub carried : head_alphabet form ≡ alphabet
  pub long : length form ≡ form_length (terminal_count form) (length rules)

-- the bytes are all of the form
module _ (alphabet form : List ℕ) (rules : List Rule) (ranked : alphabet_refusal alphabet ≡ 0) (valid : Valid alphabet rules)
    (says : (i : ℕ) → i < length rules → Says (table_of form) i (rule_at rules i)) (start : ℕ) (head : Head alphabet form rules start) where
  abbrev table : List ℕ
  table = table_of form

  all-rules : table_count table ≡ length rules
  all-rules = table_count_lem form (rw head.counted head.long) ∙ head.counted

  low : (f : ℕ) → terminal_rank alphabet f ≤ 4
  low = rank_le alphabet (alphabet_passed alphabet ranked).ranks

  rules-read : form_rules alphabet form ≡ rules
  unfolding table_rules
  rules-read =
      tabulated (table_count table) (table_rule alphabet table) (whole 0 []) rules (sym all-rules)
      (λ i h. rule-read alphabet table rules low valid says i (omega (arith, all-rules)))

  tree-read : form_tree alphabet form ≡ tree_in (value_at rules start)
  unfolding form_tree
  tree-read = rw (rules-read, head.begun)

  form-valid : length rules ≤ most_form_rules → Has rules (length rules) 0 start → T (valid_form form)
  unfolding valid_form
  form-valid few from =
      let n = length rules in
      let some : 1 ≤ n = omega (arith, from.below) in
      let each = every_of n (rule_fits alphabet table) (rule_fits_lem alphabet table rules low valid says) in
      rw (head.counted, head.begun, head.carried, le-ltb n 1 some, le-ltb most_form_rules n few, eq-eqb (length form) (form_length (terminal_count form) n) head.long, ranked)
      (both (calls_lower table n 0 start) (every n (rule_fits alphabet table)) (calls alphabet table rules low valid says n 0 start (omega arith) from) each)

-- what is known of such bytes
pub record FormRead (alphabet form : List ℕ) (rules : List Rule) (start : ℕ) : Type 0 where
  pub accepted : form_refusal alphabet form ≡ 0
  pub read : form_rules alphabet form ≡ rules
  pub tree : form_tree alphabet form ≡ tree_in (value_at rules start)

pub form-read : (alphabet form : List ℕ) (rules : List Rule) (start : ℕ) → alphabet_refusal alphabet ≡ 0 → Valid alphabet rules
    → ((i : ℕ) → i < length rules → Says (table_of form) i (rule_at rules i)) → Head alphabet form rules start
    → length rules ≤ most_form_rules → Has rules (length rules) 0 start → FormRead alphabet form rules start
unfolding form_refusal
form-read alphabet form rules start a v says head few from = record {
  accepted =
      rw (is_true (valid_form form) (form-valid alphabet form rules a v says start head few from), head.carried, is_true (same_alphabet alphabet alphabet) (is_same alphabet alphabet refl));
  read = rules-read alphabet form rules a v says start head;
  tree = tree-read alphabet form rules a v says start head;
}
