-- The rules that the bytes of a valid form say are a valid form, of which the start derives a tree.
use mathlib.Core.Path.{◌≡◌, refl, ap, ◌∙◌}
use mathlib.Core.Bool.{Bool, not, ◌&&◌}
use mathlib.Core.List.{List, [], ◌∷◌}
use Prim.Native.Nat.{ℕ, zero, suc, ◌+◌, ◌*◌, ◌-◌, ◌≤◌, ◌<◌}
use native.Mathlib.Omega.{arith}
use lib.Dec.{T, leb, ltb, eqb, ltb→lt, eqb→eq, leb→le}
use lib.ListN.{length, length-drop}
use lib.Seq.{ext_get_or}
use borrow.Author.Tests.{ltb-false, lt-ltb, ne_eqb, not-false, not-true}
use Rattle.terms.specs.Test.{all, every, tabulate}
use Rattle.terms.specs.Refusal.{outside}
use Rattle.terms.specs.Grammar.{terminal_rank}
use Rattle.terms.specs.Check.{alphabet_refusal}
use Rattle.terms.specs.Form.{Rule, whole, pierced, rule_at, holes, Has, Slots, Fits, Valid}
use Rattle.terms.specs.FormBytes.{head_length, rule_length, rule_count, start_of, terminal_count, head_alphabet, table_of, table_count, form_length, rule_byte, slot_of, kind_rank, rank_at, rule_of_kind, table_rule, table_rules, form_rules, calls_lower, unused_slot, slot_fits, slots_fit, chain_fits, kind_fits, rule_fits, most_form_rules, head_fits, valid_form, same_alphabet, form_refusal}
use Rattle.terms.proofs.Test.{is_true, of_true, both, both_0, both_1, parts, or_false, equal, every_at, every_of}
use Rattle.terms.proofs.Tabulate.{length-tabulate, get_d_tabulate}
use Rattle.terms.proofs.Refusal.{no_row}
use Rattle.terms.proofs.Sheet.Passed.{alphabet_passed}

-- no rank is over 4
pub rank_le : (alphabet : List ℕ) → T (all (λ rank. leb rank 4) alphabet) → (f : ℕ) → terminal_rank alphabet f ≤ 4
unfolding all
rank_le [] h f = omega arith
rank_le (r ∷ alphabet) h zero = leb→le r 4 (both_0 (leb r 4) (all (λ rank. leb rank 4) alphabet) h)
rank_le (r ∷ alphabet) h (suc f) = rank_le alphabet (both_1 (leb r 4) (all (λ rank. leb rank 4) alphabet) h) f

-- a rule has the rank of its kind
kind-holes : (table : List ℕ) (i kind t f n h : ℕ) (slot : ℕ → ℕ) → T (kind_fits table i kind t f n h) → holes (rule_of_kind kind f n h slot) ≡ kind_rank kind
kind-holes table i zero t f n h slot p = refl
kind-holes table i (suc zero) t f n h slot p = refl
kind-holes table i (suc (suc zero)) t f n h slot p = refl
kind-holes table i (suc (suc (suc zero))) t f n h slot p = refl
kind-holes table i (suc (suc (suc (suc kind)))) t f n h slot p = absurd p

slots_of : (rules : List Rule) (i n : ℕ) (slot : ℕ → ℕ) → ((j : ℕ) → j < n → Has rules i 0 (slot j)) → Slots rules i (tabulate n slot)
unfolding tabulate
slots_of rules i zero slot h = tt
slots_of rules i (suc n) slot h = (h 0 (omega arith), slots_of rules i n (λ j. slot (suc j)) (λ j l. h (suc j) (omega arith)))

module _ (alphabet table : List ℕ) (low : (f : ℕ) → terminal_rank alphabet f ≤ 4) (fit : (i : ℕ) → i < table_count table → T (rule_fits alphabet table i)) where
  abbrev rules : List Rule
  rules = table_rules alphabet table

  pub count-rules : length rules ≡ table_count table
  unfolding table_rules
  count-rules = length-tabulate (table_count table) (table_rule alphabet table)

  pub rule_at_lem : (i : ℕ) → i < table_count table → rule_at rules i ≡ table_rule alphabet table i
  unfolding table_rules
  rule_at_lem i h = get_d_tabulate (table_count table) (table_rule alphabet table) (whole 0 []) i h

  kind_fit : (i : ℕ) → i < table_count table
      → T (kind_fits table i (rule_byte table i 0) (length alphabet) (rule_byte table i 1) (terminal_rank alphabet (rule_byte table i 1)) (rule_byte table i 2))
  unfolding rule_fits
  kind_fit i h = both_1 (eqb (rule_byte table i 3) 0) _ (fit i h)

  -- a call of a lower rule
  calls : (i k a : ℕ) → i ≤ table_count table → T (calls_lower table i k a) → Has rules i k a
  unfolding table_rule
  calls i k a l p =
      let below = ltb→lt a i (both_0 (ltb a i) (eqb (rank_at table a) k) p) in
      let f = rule_byte table a 1 in
      let n = terminal_rank alphabet f in
      let rank = kind-holes table a (rule_byte table a 0) (length alphabet) f n (rule_byte table a 2) (slot_of table a) (kind_fit a (omega arith)) in
      record { below = below; rank = ap holes (rule_at_lem a (omega arith)) ∙ rank ∙ eqb→eq _ _ (both_1 (ltb a i) (eqb (rank_at table a) k) p) }

  module _ (i : ℕ) (l : i < table_count table) (n h : ℕ) (fits : T (slots_fit table i n h)) where
    -- a slot of f(A1..An) that is no hole
    slot_has : (j : ℕ) → j < 4 → j < n → (suc j ≡ h → ⊥) → Has rules i 0 (slot_of table i j)
    slot_has j b m ne =
        let s = every_at 4 (slot_fits table i n h) fits j b in
        calls i 0 (slot_of table i j) (omega arith) (rw (lt-ltb j n m, ne_eqb (suc j) h ne) at s)

  -- f(A1..An), with the open place at child h, or with none where h is 0
  module _ (i : ℕ) (l : i < table_count table) (f h : ℕ) (known : f < length alphabet) (fits : T (slots_fit table i (terminal_rank alphabet f) h)) where
    abbrev n : ℕ
    n = terminal_rank alphabet f

    abbrev slot : ℕ → ℕ
    slot = slot_of table i

    whole-fits : h ≡ 0 → Fits alphabet rules i (whole f (tabulate n slot))
    whole-fits z =
        (slots_of rules i n slot (λ j m. slot_has i l n h fits j (omega (arith, low f)) m (λ e. omega arith)), record { known = known; rank = length-tabulate n slot })

    pierced-fits : 1 ≤ h → h ≤ n → Fits alphabet rules i (pierced f (tabulate (h - 1) slot) (tabulate (n - h) (λ j. slot (h + j))))
    pierced-fits a b = (
      slots_of rules i (h - 1) slot (λ j m. slot_has i l n h fits j (omega (arith, low f)) (omega arith) (λ e. omega arith)),
      slots_of rules i (n - h) (λ j. slot (h + j)) (λ j m. slot_has i l n h fits (h + j) (omega (arith, low f)) (omega arith) (λ e. omega arith)),
      record { known = known; rank = omega (arith, length-tabulate (h - 1) slot, length-tabulate (n - h) (λ j. slot (h + j))) },
    )

  -- B(C) and B(C(y))
  chain-calls : (i : ℕ) → i < table_count table → (f h k : ℕ) → T (chain_fits table i f h k)
      → Has rules i 1 (slot_of table i 0) × Has rules i k (slot_of table i 1)
  chain-calls i l f h k p =
      let unused = unused_slot (slot_of table i 2) && unused_slot (slot_of table i 3) in
      let b = calls_lower table i 1 (slot_of table i 0) in
      let c = calls_lower table i k (slot_of table i 1) in
      let q = both_1 (eqb h 0) (b && (c && unused)) (both_1 (eqb f 0xFF) (eqb h 0 && (b && (c && unused))) p) in
      (calls i 1 (slot_of table i 0) (omega arith) (both_0 b (c && unused) q), calls i k (slot_of table i 1) (omega arith) (both_0 c unused (both_1 b (c && unused) q)))

  kind_fits_lem : (i : ℕ) → i < table_count table → (kind f h : ℕ) → T (kind_fits table i kind (length alphabet) f (terminal_rank alphabet f) h)
      → Fits alphabet rules i (rule_of_kind kind f (terminal_rank alphabet f) h (slot_of table i))
  kind_fits_lem i l zero f h p =
      let fits = slots_fit table i (terminal_rank alphabet f) h in
      let (known, q) = parts (ltb f (length alphabet)) (eqb h 0 && fits) p in
      let (none, s) = parts (eqb h 0) fits q in
      whole-fits i l f h (ltb→lt f (length alphabet) known) s (eqb→eq h 0 none)
  kind_fits_lem i l (suc zero) f h p =
      let n = terminal_rank alphabet f in
      let fits = slots_fit table i n h in
      let (known, q) = parts (ltb f (length alphabet)) (not (outside 1 n h) && fits) p in
      let (within, s) = parts (not (outside 1 n h)) fits q in
      let (a, b) = or_false (ltb h 1) (ltb n h) (not-true (outside 1 n h) (is_true (not (outside 1 n h)) within)) in
      pierced-fits i l f h (ltb→lt f (length alphabet) known) s (ltb-false h 1 a) (ltb-false n h b)
  kind_fits_lem i l (suc (suc zero)) f h p = chain-calls i l f h 0 p
  kind_fits_lem i l (suc (suc (suc zero))) f h p = chain-calls i l f h 1 p
  kind_fits_lem i l (suc (suc (suc (suc kind)))) f h p = absurd p

  pub rules-valid : Valid alphabet rules
  unfolding table_rule
  rules-valid = record {
    fits = λ i h. let l : i < table_count table = rw count-rules at h in rw (rule_at_lem i l) (kind_fits_lem i l (rule_byte table i 0) (rule_byte table i 1) (rule_byte table i 2) (kind_fit i l));
  }

-- two alphabets are the same exactly where the test says so

module _ (a b : List ℕ) where
  abbrev long : Bool
  long = eqb (length a) (length b)

  abbrev rank : ℕ → Bool
  rank f = eqb (terminal_rank a f) (terminal_rank b f)

  pub same-is : T (same_alphabet a b) → a ≡ b
  unfolding same_alphabet
  same-is h =
      let (l, each) = parts long (every (length a) rank) h in
      ext_get_or 0 a b (eqb→eq (length a) (length b) l) (λ f m. eqb→eq (terminal_rank a f) (terminal_rank b f) (every_at (length a) rank each f m))

  pub is_same : a ≡ b → T (same_alphabet a b)
  unfolding same_alphabet
  is_same e = both long (every (length a) rank) (equal _ _ (ap length e)) (every_of (length a) rank (λ f l. equal _ _ (ap (λ (c : List ℕ). terminal_rank c f) e)))

-- a table that has the rules of a form
module _ (form : List ℕ) (long : length form ≡ form_length (terminal_count form) (rule_count form)) where
  pub table_long : length (table_of form) ≡ rule_length * rule_count form
  table_long = omega (arith, length-drop (head_length (terminal_count form)) form)

  pub table_count_lem : table_count (table_of form) ≡ rule_count form
  table_count_lem = omega (arith, table_long)

-- what is known of a head that is in order
pub record HeadPassed (form : List ℕ) : Type 0 where
  pub some : 1 ≤ rule_count form
  pub few : rule_count form ≤ most_form_rules
  pub long : length form ≡ form_length (terminal_count form) (rule_count form)
  pub ranked : alphabet_refusal (head_alphabet form) ≡ 0

pub head_passed : (form : List ℕ) → T (head_fits form) → HeadPassed form
head_passed form h =
    let r = rule_count form in
    let range = not (outside 1 most_form_rules r) in
    let whole = eqb (length form) (form_length (terminal_count form) r) in
    let ranked = eqb (alphabet_refusal (head_alphabet form)) 0 in
    let (p, q) = parts range (whole && ranked) h in
    let (l, a) = parts whole ranked q in
    let (low, high) = or_false (ltb r 1) (ltb most_form_rules r) (not-true (outside 1 most_form_rules r) (is_true range p)) in
    record { some = ltb-false r 1 low; few = ltb-false most_form_rules r high; long = eqb→eq _ _ l; ranked = eqb→eq _ _ a }

-- what is known of a form that is not refused with an alphabet
pub record FormPassed (alphabet form : List ℕ) : Type 0 where
  pub some : 1 ≤ rule_count form
  pub few : rule_count form ≤ most_form_rules
  pub long : length form ≡ form_length (terminal_count form) (rule_count form)
  pub carried : head_alphabet form ≡ alphabet
  pub fits : (i : ℕ) → i < rule_count form → T (rule_fits alphabet (table_of form) i)
  pub count : length (form_rules alphabet form) ≡ rule_count form
  pub valid : Valid alphabet (form_rules alphabet form)
  pub start : Has (form_rules alphabet form) (rule_count form) 0 (start_of form)

-- a valid form, with the alphabet in its head
by_head : (form : List ℕ) → T (valid_form form) → FormPassed (head_alphabet form) form
unfolding valid_form
by_head form v =
    let r = rule_count form in
    let alphabet = head_alphabet form in
    let table = table_of form in
    let begin = calls_lower table r 0 (start_of form) in
    let each = every r (rule_fits alphabet table) in
    let (h, rest) = parts (head_fits form) (begin && each) v in
    let (t, u) = parts begin each rest in
    let head = head_passed form h in
    let ranks = rank_le alphabet (alphabet_passed alphabet head.ranked).ranks in
    let all = table_count_lem form head.long in
    let fit = every_at r (rule_fits alphabet table) u in
    let each_fits : (i : ℕ) → i < table_count table → T (rule_fits alphabet table i) = λ i h. fit i (omega arith) in
    record {
      some = head.some;
      few = head.few;
      long = head.long;
      carried = refl;
      fits = fit;
      count = count-rules alphabet table ranks each_fits ∙ all;
      valid = rules-valid alphabet table ranks each_fits;
      start = calls alphabet table ranks each_fits r 0 (start_of form) (omega arith) t;
    }

pub form_passed : (alphabet form : List ℕ) → form_refusal alphabet form ≡ 0 → FormPassed alphabet form
unfolding form_refusal
form_passed alphabet form e =
    let valid = valid_form form in
    let same = same_alphabet alphabet (head_alphabet form) in
    let (e18, r) = no_row 17 (not valid) _ e in
    let e28 = (no_row 27 (not same) _ r).0 in
    let is : alphabet ≡ head_alphabet form = same-is alphabet (head_alphabet form) (of_true same (not-false _ e28)) in
    rw is (by_head form (of_true valid (not-false _ e18)))
