-- What is known of a form that is not refused, and of rule i of its table by its kind: what it is, and that it names lower rules.
use mathlib.Core.Path.{◌≡◌, refl, sym, ◌∙◌}
use mathlib.Core.Logic.{◌⊎◌, inl, inr}
use mathlib.Core.List.{List}
use Prim.Native.Nat.{ℕ, zero, suc, ◌+◌, ◌-◌, ◌≤◌, ◌<◌}
use native.Mathlib.Nat.{eq-or-lt_of_le}
use native.Mathlib.Omega.{arith}
use lib.Dec.{T, eqb}
use lib.ListN.{length}
use Rattle.terms.specs.Test.{tabulate}
use Rattle.terms.specs.Grammar.{terminal_rank}
use Rattle.terms.specs.Form.{Rule, whole, pierced, filled, composed, rule_at, Has, Slots, Fits, Valid}
use Rattle.terms.specs.FormBytes.{head_length, rule_count, start_of, terminal_count, table_of, table_count, rule_byte, slot_of, rule_of_kind, table_rule, table_rules, kind_fits, rule_fits, form_refusal}
use Rattle.terms.specs.Check.{alphabet_refusal}
use Rattle.terms.specs.Calls.{opening_refusal}
use Rattle.terms.proofs.Refusal.{none_before}
use Rattle.terms.proofs.Test.{is_true, of_true, both_1, every_at, every_of}
use Rattle.terms.proofs.Tabulate.{length-tabulate}
use Rattle.terms.proofs.Sheet.Passed.{alphabet_passed}
use Rattle.terms.proofs.Form.Bytes.{rank_le, count-rules, rule_at_lem, rules-valid, table_long, table_count_lem, FormPassed, form_passed}
use Rattle.forms.specs.Private.Table.{ValidTable}

-- a slot of a row of slots
pub slots_at : (rules : List Rule) (i n : ℕ) (slot : ℕ → ℕ) → Slots rules i (tabulate n slot) → (j : ℕ) → j < n → Has rules i 0 (slot j)
unfolding tabulate
slots_at rules i zero slot s j h = absurd (omega arith)
slots_at rules i (suc n) slot s zero h = s.0
slots_at rules i (suc n) slot s (suc j) h = slots_at rules i n (λ k. slot (suc k)) s.1 j (omega arith)

-- a kind above 2
last_kind : (kind f n h : ℕ) (slot : ℕ → ℕ) → 3 ≤ kind → rule_of_kind kind f n h slot ≡ composed (slot 0) (slot 1)
last_kind zero f n h slot l = absurd (omega arith)
last_kind (suc zero) f n h slot l = absurd (omega arith)
last_kind (suc (suc zero)) f n h slot l = absurd (omega arith)
last_kind (suc (suc (suc kind))) f n h slot l = refl

-- a kind that fits is at most 3
kind_fits_low : (table : List ℕ) (i kind t f n h : ℕ) → T (kind_fits table i kind t f n h) → kind ≤ 3
kind_fits_low table i zero t f n h p = omega arith
kind_fits_low table i (suc zero) t f n h p = omega arith
kind_fits_low table i (suc (suc zero)) t f n h p = omega arith
kind_fits_low table i (suc (suc (suc zero))) t f n h p = omega arith
kind_fits_low table i (suc (suc (suc (suc kind)))) t f n h p = absurd p

-- the table of a form that is not refused
module _ (alphabet table : List ℕ) (v : ValidTable alphabet table) where
  pub rank-low : (f : ℕ) → terminal_rank alphabet f ≤ 4
  rank-low = rank_le alphabet (alphabet_passed alphabet v.ranked).ranks

  each_fits : (i : ℕ) → i < table_count table → T (rule_fits alphabet table i)
  each_fits = every_at (table_count table) (rule_fits alphabet table) (of_true _ v.fits)

  pub rules-counted : length (table_rules alphabet table) ≡ table_count table
  rules-counted = count-rules alphabet table rank-low each_fits

  pub valid-rules : Valid alphabet (table_rules alphabet table)
  valid-rules = rules-valid alphabet table rank-low each_fits

  module _ (i : ℕ) (l : i < table_count table) where
    abbrev f : ℕ
    f = rule_byte table i 1

    abbrev n : ℕ
    n = terminal_rank alphabet f

    abbrev h : ℕ
    h = rule_byte table i 2

    abbrev slot : ℕ → ℕ
    slot = slot_of table i

    abbrev rules : List Rule
    rules = table_rules alphabet table

    pub kind-low : rule_byte table i 0 ≤ 3
    unfolding rule_fits
    kind-low = kind_fits_low table i (rule_byte table i 0) (length alphabet) f n h (both_1 (eqb (rule_byte table i 3) 0) _ (each_fits i l))

    pub in_rules : i < length (table_rules alphabet table)
    in_rules = omega (arith, rules-counted)

    pub rule-is : rule_at (table_rules alphabet table) i ≡ table_rule alphabet table i
    rule-is = rule_at_lem alphabet table rank-low each_fits i l

    pub fits : Fits alphabet (table_rules alphabet table) i (table_rule alphabet table i)
    fits = rw rule-is at (valid-rules.fits i in_rules)

    -- by its kind

    pub is_whole : rule_byte table i 0 ≡ 0 → table_rule alphabet table i ≡ whole f (tabulate n slot)
    unfolding table_rule
    is_whole k = rw k

    pub is-pierced : rule_byte table i 0 ≡ 1 → table_rule alphabet table i ≡ pierced f (tabulate (h - 1) slot) (tabulate (n - h) (λ j. slot (h + j)))
    unfolding table_rule
    is-pierced k = rw k

    pub is-filled : rule_byte table i 0 ≡ 2 → table_rule alphabet table i ≡ filled (slot 0) (slot 1)
    unfolding table_rule
    is-filled k = rw k

    pub is-composed : 3 ≤ rule_byte table i 0 → table_rule alphabet table i ≡ composed (slot 0) (slot 1)
    unfolding table_rule
    is-composed k = last_kind (rule_byte table i 0) f n h slot k

    pub hole-within : rule_byte table i 0 ≡ 1 → (1 ≤ h) × (h ≤ n)
    hole-within k =
        let p : Fits alphabet rules i (pierced f (tabulate (h - 1) slot) (tabulate (n - h) (λ j. slot (h + j)))) = rw (is-pierced k) at fits in
        omega (arith, p.2.rank, length-tabulate (h - 1) slot, length-tabulate (n - h) (λ j. slot (h + j)))

    -- what it names

    -- kinds 2 and 3

    pub filled_names : rule_byte table i 0 ≡ 2 → Has rules i 1 (slot 0) × Has rules i 0 (slot 1)
    filled_names k = rw (is-filled k) at fits

    pub composed_names : 3 ≤ rule_byte table i 0 → Has rules i 1 (slot 0) × Has rules i 1 (slot 1)
    composed_names k = rw (is-composed k) at fits

    -- the rules that a rule of kind 2 or 3 names are lower
    pub chain-low : 2 ≤ rule_byte table i 0 → (slot 0 < i) × (slot 1 < i)
    chain-low k = go (eq-or-lt_of_le k)
      where
        go : (2 ≡ rule_byte table i 0) ⊎ (2 < rule_byte table i 0) → (slot 0 < i) × (slot 1 < i)
        go (inl e) = let p = filled_names (sym e) in (p.0.below, p.1.below)
        go (inr g) = let p = composed_names g in (p.0.below, p.1.below)

-- a form that is not refused has a head, and a table that is valid
module _ (alphabet form : List ℕ) (a : alphabet_refusal alphabet ≡ 0) (e : form_refusal alphabet form ≡ 0) where
  pub passed : FormPassed alphabet form
  passed = form_passed alphabet form e

  pub head-long : head_length (terminal_count form) ≤ length form
  head-long = omega (arith, passed.long)

  pub rules_in_table : table_count (table_of form) ≡ rule_count form
  rules_in_table = table_count_lem form passed.long

  pub valid_table : ValidTable alphabet (table_of form)
  valid_table =
      let n = rules_in_table in
      record {
        ranked = a;
        whole = omega (arith, table_long form passed.long);
        few = omega (arith, passed.few);
        fits = is_true _ (every_of (table_count (table_of form)) (rule_fits alphabet (table_of form)) (λ i h. passed.fits i (omega arith)));
      }

  -- what a call that has parted the form knows of the table and of the number of its rules
  pub parted : (table : List ℕ) (count : ℕ) → table ≡ table_of form → count ≡ rule_count form → ValidTable alphabet table × (count ≡ table_count table)
  parted table count t n = rw t (valid_table, n ∙ sym rules_in_table)

-- what passes the opening
pub opening_passed : (alphabet form : List ℕ) → opening_refusal alphabet form ≡ 0 → (alphabet_refusal alphabet ≡ 0) × (form_refusal alphabet form ≡ 0)
unfolding opening_refusal
opening_passed alphabet form e =
    let (a, r) = none_before (alphabet_refusal alphabet) _ e in
    (a, (none_before (form_refusal alphabet form) 0 r).0)

-- a form that opens: its head is whole, its table is valid and its start is a rule of the table
module _ (alphabet form : List ℕ) (e : 0 ≡ opening_refusal alphabet form) where
  pub opens : (alphabet_refusal alphabet ≡ 0) × (form_refusal alphabet form ≡ 0)
  opens = opening_passed alphabet form (sym e)

  pub opened-head : head_length (terminal_count form) ≤ length form
  opened-head = head-long alphabet form opens.0 opens.1

  pub opened-table : (table : List ℕ) → table ≡ table_of form → ValidTable alphabet table
  opened-table table t = rw t (valid_table alphabet form opens.0 opens.1)

  pub opened-start : (table : List ℕ) → table ≡ table_of form → (start : ℕ) → start ≡ start_of form → start < table_count table
  opened-start table t start s = rw (t, s) (omega (arith, (passed alphabet form opens.0 opens.1).start.below, rules_in_table alphabet form opens.0 opens.1))
