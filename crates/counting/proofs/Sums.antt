-- How many nodes a rule derives, from how many the rules that it names derive; and the same of counts that are capped.
use mathlib.Core.Path.{◌≡◌, refl, sym, ◌∙◌, ap}
use mathlib.Core.List.{List, [], ◌∷◌, ◌++◌}
use Prim.Native.Nat.{ℕ, ◌+◌, ◌≤◌, ◌<◌}
use native.Mathlib.Omega.{arith}
use lib.ListN.{length, length-append}
use Rattle.terms.specs.Form.{Rule, whole, pierced, filled, composed, Value, value_of, value_at, rule_at, Slots, Fits, Valid}
use Rattle.terms.specs.Count.{own_nodes, nodes_before, capped}
use Rattle.terms.proofs.Form.Value.{value-step}
use Rattle.counting.specs.Private.Symbols.{symbols_before, symbols_after, own_symbols, symbols_at}
use Rattle.counting.specs.Private.Counts.{total, own_by, before_by}
use Rattle.counting.proofs.Symbols.{count_symbols, count_parts, around, nodes-before}
use Rattle.counting.proofs.OfRule.{symbols_of, fits-before, own_symbols_lem}

pub length_symbols : (v : ℕ → Value) (slots : List ℕ) → length (symbols_at v slots) ≡ total (λ a. own_nodes (v a)) slots
length_symbols v [] = refl
length_symbols v (a ∷ slots) = omega (arith, length-append (own_symbols (v a)) (symbols_at v slots), count_symbols (v a), length_symbols v slots)

module _ {alphabet : List ℕ} {rs : List Rule} (v : Valid alphabet rs) (n : ℕ) (l : n ≤ length rs) where
  abbrev value : ℕ → Value
  value = value_at rs

  length-around : (b c : ℕ) → length (around (value b) (value c)) ≡ own_nodes (value b) + own_nodes (value c)
  length-around b c =
      let xs = symbols_before (value b) in
      let zs = symbols_after (value b) in
      let ys = own_symbols (value c) in
      omega (arith, length-append xs (ys ++ zs), length-append ys zs, count_parts (value b), count_symbols (value c))

  own-rule : (r : Rule) → length (symbols_of value r) ≡ own_by (λ a. own_nodes (value a)) r
  own-rule (whole f slots) = omega (arith, length_symbols value slots)
  own-rule (pierced f ls us) =
      omega (arith, length-append (symbols_at value ls) (symbols_at value us), length_symbols value ls, length_symbols value us)
  own-rule (filled b c) = length-around b c
  own-rule (composed b c) = length-around b c

  before-rule : (r : Rule) → Fits alphabet rs n r → nodes_before (value_of r value) ≡ before_by (λ a. own_nodes (value a)) (λ a. nodes_before (value a)) r
  unfolding value_of
  before-rule (whole f slots) p = refl
  before-rule (pierced f ls us) p = omega (arith, ap length (fits-before v n l (pierced f ls us) p), length_symbols value ls)
  before-rule (filled b c) p = refl
  before-rule (composed b c) p =
      rw (nodes-before v n l b p.0, nodes-before v n l c p.1)
      (ap length (fits-before v n l (composed b c) p) ∙ length-append (symbols_before (value b)) (symbols_before (value c)))

pub own-step : {alphabet : List ℕ} {rs : List Rule} → Valid alphabet rs → (i : ℕ) → i < length rs
    → own_nodes (value_at rs i) ≡ own_by (λ a. own_nodes (value_at rs a)) (rule_at rs i)
own-step {rs = rs} v i h =
    sym (count_symbols (value_at rs i)) ∙ ap length (own_symbols_lem v i h) ∙ own-rule v i (omega arith) (rule_at rs i)

pub before-step : {alphabet : List ℕ} {rs : List Rule} → Valid alphabet rs → (i : ℕ) → i < length rs
    → nodes_before (value_at rs i) ≡ before_by (λ a. own_nodes (value_at rs a)) (λ a. nodes_before (value_at rs a)) (rule_at rs i)
before-step {rs = rs} v i h = ap nodes_before (value-step v i h) ∙ before-rule v i (omega arith) (rule_at rs i) (v.fits i h)

-- Caps: a sum that is capped may be made from what is capped.

pub capped_add : (a b : ℕ) → capped (capped a + capped b) ≡ capped (a + b)
capped_add a b = omega arith

-- the counts that are lent, own' and prior', are those of the rules below n, capped
module _ (alphabet : List ℕ) (rs : List Rule) (n : ℕ) (own own' : ℕ → ℕ) (same : (a : ℕ) → a < n → own' a ≡ capped (own a)) where
  pub capped-total : (slots : List ℕ) → Slots rs n slots → capped (total own' slots) ≡ capped (total own slots)
  capped-total [] p = refl
  capped-total (a ∷ slots) p = omega (arith, same a p.0.below, capped-total slots p.1)

  capped_pair : (b c : ℕ) → b < n → c < n → capped (own' b + own' c) ≡ capped (own b + own c)
  capped_pair b c h k = rw (same b h, same c k) (capped_add (own b) (own c))

  capped-own : (r : Rule) → Fits alphabet rs n r → capped (own_by own' r) ≡ capped (own_by own r)
  capped-own (whole f slots) p = omega (arith, capped-total slots p.0)
  capped-own (pierced f ls us) p = omega (arith, capped-total ls p.0, capped-total us p.1)
  capped-own (filled b c) p = capped_pair b c p.0.below p.1.below
  capped-own (composed b c) p = capped_pair b c p.0.below p.1.below

module _ (alphabet : List ℕ) (rs : List Rule) (n : ℕ) (own own' prior prior' : ℕ → ℕ) (same : (a : ℕ) → a < n → own' a ≡ capped (own a))
    (same' : (a : ℕ) → a < n → prior' a ≡ capped (prior a)) where
  capped-before : (r : Rule) → Fits alphabet rs n r → capped (before_by own' prior' r) ≡ capped (before_by own prior r)
  capped-before (whole f slots) p = refl
  capped-before (pierced f ls us) p = omega (arith, capped-total alphabet rs n own own' same ls p.0)
  capped-before (filled b c) p = refl
  capped-before (composed b c) p = capped_pair alphabet rs n prior prior' same' b c p.0.below p.1.below

-- the counts of rule i, capped, from those of lower rules, capped
module _ {alphabet : List ℕ} {rs : List Rule} (v : Valid alphabet rs) (i : ℕ) (h : i < length rs) (own prior : ℕ → ℕ)
    (same : (a : ℕ) → a < i → own a ≡ capped (own_nodes (value_at rs a))) where
  pub own-capped : capped (own_by own (rule_at rs i)) ≡ capped (own_nodes (value_at rs i))
  own-capped =
      capped-own alphabet rs i (λ a. own_nodes (value_at rs a)) own same (rule_at rs i) (v.fits i h)
      ∙ ap capped (sym (own-step v i h))

  pub before-capped : ((a : ℕ) → a < i → prior a ≡ capped (nodes_before (value_at rs a)))
      → capped (before_by own prior (rule_at rs i)) ≡ capped (nodes_before (value_at rs i))
  before-capped same' =
      capped-before alphabet rs i (λ a. own_nodes (value_at rs a)) own (λ a. nodes_before (value_at rs a)) prior same same' (rule_at rs i) (v.fits i h)
      ∙ ap capped (sym (before-step v i h))
