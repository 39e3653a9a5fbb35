-- The table of sifted rules, and the cleaned rules by their numbers.
use mathlib.Core.Path.{◌≡◌, refl, ◌∙◌, ap}
use mathlib.Core.Logic.{◌⊎◌, inl, inr}
use mathlib.Core.List.{List, [], ◌∷◌, ◌++◌}
use Prim.Native.Nat.{ℕ, zero, suc, ◌≤◌, ◌<◌}
use native.Mathlib.Omega.{arith}
use native.Mathlib.Nat.{eq-or-lt_of_le}
use native.Mathlib.Decide.{dec_lt}
use lib.Dec.{T, ltb→lt}
use lib.ListN.{length, length-append, length-map, get_or-append, get_or-eq_default, get_or-map}
use lib.Seq.{get_or_at}
use Rattle.terms.specs.Test.{tabulate}
use Rattle.terms.specs.Grammar.{Name, terminal, nonterminal, parameter, nothing, Rule, rule_at, rule_rank, name_rank, allowed}
use Rattle.cleaning_terms.specs.Cleaning.{present, sifted_rules, rule_sifted, trues, renumbered, cleaned}
use Rattle.cleaning_terms.proofs.Flags.{trues_le, length-present}

-- no rule
abbrev pub empty : Rule
empty = record { rank = 0; nodes = [] }

module _ (alphabet : List ℕ) (rules : List Rule) where
  sifted_length : (k : ℕ) → length (sifted_rules alphabet rules k) ≡ k
  unfolding sifted_rules
  sifted_length zero = refl
  sifted_length (suc k) = omega (arith, length-append (sifted_rules alphabet rules k) (rule_sifted alphabet rules k ∷ []), sifted_length k)

  pub sifted_at : (k i : ℕ) → i < k → rule_at (sifted_rules alphabet rules k) i ≡ rule_sifted alphabet rules i
  unfolding sifted_rules
  sifted_at zero i h = absurd (omega arith)
  sifted_at (suc k) i h = go (eq-or-lt_of_le (omega arith)) (sifted_at k i)
    where
      sifted : List Rule
      sifted = sifted_rules alphabet rules k

      go : (i ≡ k) ⊎ (i < k) → (i < k → rule_at sifted i ≡ rule_sifted alphabet rules i) → rule_at (sifted ++ (rule_sifted alphabet rules k ∷ [])) i ≡ rule_sifted alphabet rules i
      go (inl e) f = rw e (get_or_at sifted (rule_sifted alphabet rules k) [] empty k (sifted_length k))
      go (inr l) f = get_or-append sifted (rule_sifted alphabet rules k ∷ []) empty i (omega (arith, sifted_length k)) ∙ f l

  pub sifted_past : (k i : ℕ) → k ≤ i → rule_at (sifted_rules alphabet rules k) i ≡ empty
  sifted_past k i h = get_or-eq_default (sifted_rules alphabet rules k) empty {n = i} (omega (arith, sifted_length k))

  -- what is allowed in rule i has the rank that it has as written
  pub sifted_rank : (i : ℕ) (x : Name) → T (allowed alphabet i (rule_rank rules i) x) → name_rank alphabet (sifted_rules alphabet rules i) x ≡ name_rank alphabet rules x
  sifted_rank i (terminal f) a = refl
  sifted_rank i (nonterminal r) a = ap (λ (q : Rule). q.rank) (sifted_at i r (ltb→lt r i a))
  sifted_rank i (parameter j) a = refl
  sifted_rank i nothing a = refl

  pub cleaned-length : length (cleaned alphabet rules) ≡ length rules
  unfolding cleaned
  cleaned-length = length-map (sifted_rules alphabet rules (length rules)) renumbered ∙ sifted_length (length rules)

  renumbered_empty : renumbered empty ≡ empty
  unfolding renumbered present tabulate trues
  renumbered_empty = refl

  cleaned-each : (i : ℕ) → rule_at (cleaned alphabet rules) i ≡ renumbered (rule_at (sifted_rules alphabet rules (length rules)) i)
  unfolding cleaned
  cleaned-each i = rw renumbered_empty at (get_or-map renumbered (sifted_rules alphabet rules (length rules)) i empty)

  pub cleaned_at : (i : ℕ) → i < length rules → rule_at (cleaned alphabet rules) i ≡ renumbered (rule_sifted alphabet rules i)
  cleaned_at i h = cleaned-each i ∙ ap renumbered (sifted_at (length rules) i h)

  cleaned_past : (i : ℕ) → length rules ≤ i → rule_at (cleaned alphabet rules) i ≡ empty
  cleaned_past i h = cleaned-each i ∙ ap renumbered (sifted_past (length rules) i h) ∙ renumbered_empty

  -- the new rank
  pub cleaned-rank : (i : ℕ) → i < length rules → rule_rank (cleaned alphabet rules) i ≡ trues (present (rule_sifted alphabet rules i))
  unfolding renumbered
  cleaned-rank i h = ap (λ (r : Rule). r.rank) (cleaned_at i h)

  pub cleaned_rank_le : (i : ℕ) → rule_rank (cleaned alphabet rules) i ≤ rule_rank rules i
  cleaned_rank_le i = go (dec_lt i (length rules))
    where
      go : Dec (i < length rules) → rule_rank (cleaned alphabet rules) i ≤ rule_rank rules i
      go (yes h) = omega (arith, cleaned-rank i h, trues_le (present (rule_sifted alphabet rules i)), length-present (rule_sifted alphabet rules i))
      go (no h) = omega (arith, ap (λ (r : Rule). r.rank) (cleaned_past i (omega arith)))
