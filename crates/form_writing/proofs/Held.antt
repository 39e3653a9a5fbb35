-- A table that holds the rules of a form: it holds them still where the rules' bytes are kept, and one rule more behind them.
use mathlib.Core.Path.{◌≡◌, sym, ap, subst, ◌∙◌}
use mathlib.Core.List.{List, [], ◌∷◌, ◌++◌}
use mathlib.Core.Logic.{◌⊎◌, inl, inr}
use Prim.Native.Nat.{ℕ, ◌+◌, ◌*◌, ◌<◌}
use native.Mathlib.Omega.{arith}
use native.Mathlib.Nat.{eq-or-lt_of_le}
use lib.ListN.{length, get_or}
use Rattle.terms.specs.Form.{Rule, rule_at}
use Rattle.terms.specs.FormBytes.{rule_length, rule_byte, rule_bytes}
use Rattle.terms.proofs.Form.Valid.{at_end, length-end, later_append}
use Rattle.form_writing.specs.Bytes.{fields_for, Holds, RuleWritten}

-- the bytes of the rules are kept
pub held_kept : (exit entry : List ℕ) (rules : List Rule) → Holds entry rules
    → ((k : ℕ) → k < rule_length * length rules → get_or exit k 0 ≡ get_or entry k 0) → Holds exit rules
held_kept exit entry rules held same = record { bytes = λ i k h l. same (rule_length * i + k) (omega arith) ∙ held.bytes i k h l }

-- no rule
pub held_none : (table : List ℕ) → Holds table []
held_none table = record { bytes = λ i k h l. absurd (omega arith) }

-- one rule more
module _ (exit entry : List ℕ) (rules : List Rule) (r : Rule) (held : Holds entry rules) (w : RuleWritten (length rules) (fields_for r) exit entry) where
  -- byte k of a rule
  abbrev byte : ℕ → Rule → ℕ
  byte k x = get_or (rule_bytes x) k 0

  more : (i k : ℕ) → k < rule_length → (i ≡ length rules) ⊎ (i < length rules) → rule_byte exit i k ≡ byte k (rule_at (rules ++ (r ∷ [])) i)
  more i k l (inl e) =
      subst (λ (n : ℕ). rule_byte exit n k ≡ byte k (rule_at (rules ++ (r ∷ [])) n)) (sym e) (w.bytes k l ∙ ap (byte k) (sym (at_end rules r)))
  more i k l (inr h) =
      (held_kept exit entry rules held (λ n b. w.kept.front n b)).bytes i k h l ∙ ap (byte k) (sym ((later_append rules r).same i h))

  pub held_more : Holds exit (rules ++ (r ∷ []))
  held_more = record { bytes = λ i k h l. more i k l (eq-or-lt_of_le (omega (arith, length-end rules r))) }
