-- Where the rules of a table below one are done: the slice begins with their entries as they end, and the flags say which of them depend on the terminal.
use mathlib.Core.Path.{◌≡◌, refl, ◌∙◌}
use mathlib.Core.Bool.{Bool, true, false}
use mathlib.Core.List.{List, ◌++◌}
use Prim.Native.Nat.{ℕ, ◌+◌, ◌≤◌, ◌<◌}
use native.Mathlib.Omega.{arith}
use native.Mathlib.Decide.{dec_lt}
use lib.ListN.{length, drop, set, length-set, replicate, length-replicate, get_or-replicate, get_or-eq_default}
use lib.Seq.{get_or-set_same, get_or-set_other}
use Rattle.terms.specs.Form.{Rule}
use Rattle.terms.specs.Sheet.{transitions_of}
use Rattle.terms.specs.FormBytes.{table_count, table_rules, most_form_rules}
use Rattle.terms.specs.Calls.{lent_after}
use Rattle.forms.specs.Private.Table.{ValidTable}
use Rattle.forms.proofs.Rules.{valid-rules, in_rules, rule-is}
use Rattle.form_bytes.specs.Fields.{fields_at}
use Rattle.adding_terms.specs.Dependence.{depends_at}
use Rattle.adding_terms.specs.Adding.{redone}
use Rattle.adding_terms.proofs.Dependence.{depends_next}
use Rattle.adding_terms.proofs.Redone.{length-redone, pass_redone, pass_kept}
use Rattle.redoing.specs.Redoing.{flag_of, depends_by, flags_after, entries_after, redone_in}
use Rattle.redoing.proofs.Fields.{depends_fields}

-- the rules below n are done, where the slice held these numbers
pub record Passing (alphabet automaton table : List ℕ) (f : ℕ) (held : List ℕ) (n : ℕ) (flags : List Bool) (relations : List ℕ) : Type 0 where
  pub all_flags : length flags ≡ most_form_rules
  pub flagged : (j : ℕ) → j < n → flag_of flags j ≡ depends_at f (table_rules alphabet table) j
  pub no_flag : (j : ℕ) → n ≤ j → flag_of flags j ≡ false
  pub entries : relations ≡ redone (transitions_of alphabet automaton) f (table_rules alphabet table) held n ++ drop n held
  pub long : length relations ≡ length held

no_flags : (n j : ℕ) → flag_of (replicate n false) j ≡ false
no_flags n j = go (dec_lt j n)
  where
    go : Dec (j < n) → flag_of (replicate n false) j ≡ false
    go (yes h) = get_or-replicate n j false false h
    go (no h) = get_or-eq_default (replicate n false) false (omega (arith, length-replicate n false))

-- no rule is done
pub none_done : (alphabet automaton table : List ℕ) (f : ℕ) (held : List ℕ) → Passing alphabet automaton table f held 0 (replicate most_form_rules false) held
unfolding redone
none_done alphabet automaton table f held = record {
  all_flags = length-replicate most_form_rules false;
  flagged = λ j h. absurd (omega arith);
  no_flag = λ j h. no_flags most_form_rules j;
  entries = refl;
  long = refl;
}

module _ (alphabet automaton table : List ℕ) (f : ℕ) (held : List ℕ) (v : ValidTable alphabet table) where
  abbrev rules : List Rule
  rules = table_rules alphabet table

  -- one rule more
  module _ (n : ℕ) (l : n < table_count table) (room : n < length held) (flags : List Bool) (relations : List ℕ) (p : Passing alphabet automaton table f held n flags relations) where
    test_is : depends_by (fields_at table n) flags f ≡ depends_at f rules n
    test_is =
        depends_fields alphabet table v n l flags p.all_flags f
        ∙ rw (← rule-is alphabet table v n l) (depends_next f (valid-rules alphabet table v) n (in_rules alphabet table v n l) (flag_of flags) p.flagged)

    next_by : (b : Bool) → depends_at f rules n ≡ b → Passing alphabet automaton table f held (n + 1) (flags_after table f n flags) (entries_after alphabet automaton table f n flags relations)
    next_by true d = rw (test_is, d) record {
      all_flags = simp length-set p.all_flags;
      flagged = λ j h. go j h (dec_lt j n);
      no_flag = λ j h. get_or-set_other flags n j true false (λ e. omega arith) ∙ p.no_flag j (omega arith);
      entries = pass_redone (transitions_of alphabet automaton) f (valid-rules alphabet table v) held n (in_rules alphabet table v n l) room relations p.entries d _ (rw (rule-is alphabet table v n l));
      long = simp length-set p.long;
    }
      where
        go : (j : ℕ) → j < n + 1 → Dec (j < n) → flag_of (set flags n true) j ≡ depends_at f rules j
        go j h (yes m) = get_or-set_other flags n j true false (λ e. omega arith) ∙ p.flagged j m
        go j h (no m) =
            let e : j ≡ n = omega arith in
            rw (e, d) (get_or-set_same flags n true false (omega (arith, p.all_flags, v.few)))
    next_by false d = rw (test_is, d) record {
      all_flags = p.all_flags;
      flagged = λ j h. go j h (dec_lt j n);
      no_flag = λ j h. p.no_flag j (omega arith);
      entries = pass_kept (transitions_of alphabet automaton) f (valid-rules alphabet table v) held n (in_rules alphabet table v n l) room relations p.entries d;
      long = p.long;
    }
      where
        go : (j : ℕ) → j < n + 1 → Dec (j < n) → flag_of flags j ≡ depends_at f rules j
        go j h (yes m) = p.flagged j m
        go j h (no m) =
            let e : j ≡ n = omega arith in
            rw (e, d) (p.no_flag n (omega arith))

    pub next-done : (flags' : List Bool) (relations' : List ℕ) → flags' ≡ flags_after table f n flags → relations' ≡ entries_after alphabet automaton table f n flags relations
        → Passing alphabet automaton table f held (n + 1) flags' relations'
    next-done flags' relations' a b = rw (a, b) (next_by (depends_at f rules n) refl)

  -- all rules are done
  pub all_done : (n : ℕ) → n ≡ table_count table → (flags : List Bool) (relations : List ℕ) → Passing alphabet automaton table f held n flags relations
      → relations ≡ lent_after 0 (redone_in alphabet automaton table f held) held
  all_done n e flags relations p = rw (length-redone (transitions_of alphabet automaton) f (valid-rules alphabet table v) held (table_count table), ← e) p.entries
