-- The slots of f(A1..An), one at a time.
use mathlib.Core.Path.{◌≡◌, sym, ◌∙◌, ap}
use mathlib.Core.List.{List, [], ◌++◌}
use Prim.Native.Nat.{ℕ, ◌+◌, ◌≤◌, ◌<◌}
use native.Mathlib.Omega.{arith}
use lib.ListN.{length, length-append}
use lib.Seq.{sets}
use Rattle.terms.specs.Form.{Has, Slots}
use Rattle.terms.specs.FormBytes.{table_count, slot_of, table_rules}
use Rattle.counting.specs.Private.Symbols.{symbols_before, symbols_after, symbols_at}
use Rattle.counting.proofs.Symbols.{tree-before, tree-after}
use Rattle.counting.specs.Private.Counts.{slots_from, CountedTable}
use Rattle.writing.specs.Writing.{value_in, symbols_in, rule_written}
use Rattle.writing.proofs.write.Splice.{sets_append}
use Rattle.counting.proofs.Slots.{slots-more}
use Rattle.forms.proofs.Rules.{rules-counted, valid-rules}

-- what is known of slot j, which is rule s, and of the slots behind it
pub record SlotStep (alphabet table : List ℕ) (i j to s : ℕ) : Type 0 where
  pub has : Has (table_rules alphabet table) i 0 s
  pub rest : Slots (table_rules alphabet table) i (slots_from (slot_of table i) (j + 1) to)
  pub symbols : symbols_in alphabet table i j to
      ≡ symbols_before (value_in alphabet table s) ++ symbols_in alphabet table i (j + 1) to
  pub long : length (symbols_in alphabet table i j to)
      ≡ length (symbols_before (value_in alphabet table s)) + length (symbols_in alphabet table i (j + 1) to)
  pub none : symbols_after (value_in alphabet table s) ≡ []

pub slot_step : (alphabet table counts : List ℕ) → CountedTable alphabet table counts → (i : ℕ) → i < table_count table
    → (j to s : ℕ) → j < to → Slots (table_rules alphabet table) i (slots_from (slot_of table i) j to) → s ≡ slot_of table i j → SlotStep alphabet table i j to s
slot_step alphabet table counts known i below j to s inside slots is =
    let valid = valid-rules alphabet table known.valid in
    let most : i ≤ length (table_rules alphabet table) = omega (arith, rules-counted alphabet table known.valid) in
    let (has, rest) = rw (slots-more (slot_of table i) j to inside) at slots in
    let first = slot_of table i j in
    let others = slots_from (slot_of table i) (j + 1) to in
    let symbols = ap (symbols_at (value_in alphabet table)) (slots-more (slot_of table i) j to inside)
    ∙ ap (λ s. s ++ symbols_at (value_in alphabet table) others) (tree-before valid i most first has) in
    rw is record {
      has = has;
      rest = rest;
      symbols = symbols;
      long = ap length symbols ∙ length-append (symbols_before (value_in alphabet table first)) (symbols_at (value_in alphabet table) others);
      none = tree-after valid i most first has;
    }

-- once slot j is written, what is left are the slots behind it
pub slot_written : (alphabet table : List ℕ) (i j to s : ℕ) → SlotStep alphabet table i j to s → (l l' : List ℕ) (at n : ℕ)
    → l' ≡ rule_written alphabet table s l at 0 → n ≡ length (symbols_before (value_in alphabet table s))
    → sets l' (at + n) (symbols_in alphabet table i (j + 1) to) ≡ sets l at (symbols_in alphabet table i j to)
slot_written alphabet table i j to s slot l l' at n e size =
    rw (e, slot.none, size, slot.symbols)
    (sym (sets_append l at (symbols_before (value_in alphabet table s)) (symbols_in alphabet table i (j + 1) to)))
