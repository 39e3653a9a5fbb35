-- One rule is written as its draws choose it.
use Rattle.std.proofs.Common.{◌≡◌, ℕ, ◌+◌, ◌%◌, true, false, List, [], ◌∷◌, length, ap, subst, eq-eqb, ne_eqb}
use Rattle.practice_terms.specs.Draw.{next, draw, is_even}
use Rattle.practice_rules.specs.Drawn.{after_rule, bytes_from, Copied, Drawn}

-- bytes that are the rule's, copied to the place
drawn : (x i at y : ℕ) (bytes exit entry : List ℕ) → y ≡ after_rule x → bytes ≡ bytes_from i x → Copied bytes at exit entry
    → Drawn x i at y (at + length bytes) exit entry
drawn x i at y bytes exit entry number e c =
    record { number = number; ends = ap (λ bs. at + length bs) e; copied = subst (λ bs. Copied bs at exit entry) e c }

-- the first two draws take the generator from x to a and then to b; they decide the kind and j
module _ {x i at a b kind second j : ℕ} {exit entry : List ℕ} (ea : a ≡ next x) (ek : kind ≡ draw (next x)) (eb : b ≡ next a) (es : second ≡ draw (next a))
    (ej : j ≡ 0x40 + second % i) where
  pub even_drawn : kind % 2 ≡ 0 → {c third k : ℕ} → c ≡ next b → third ≡ draw (next b) → k ≡ 0x40 + third % i
      → Copied (1 ∷ 3 ∷ j ∷ k ∷ 0x80 ∷ []) at exit entry → Drawn x i at c (at + 5) exit entry
  even_drawn h {c} {third} {k} ec et el w =
      let even : is_even (draw (next x)) ≡ true = rw (← ek) (eq-eqb (kind % 2) 0 h) in
      drawn x i at c (1 ∷ 3 ∷ j ∷ k ∷ 0x80 ∷ []) exit entry (rw (even, ec, eb, ea)) (rw (even, ej, es, el, et, eb, ea)) w

  pub odd_drawn : (kind % 2 ≡ 0 → ⊥) → Copied (1 ∷ 4 ∷ 2 ∷ j ∷ 0x80 ∷ 0 ∷ []) at exit entry → Drawn x i at b (at + 6) exit entry
  odd_drawn h w =
      let odd : is_even (draw (next x)) ≡ false = rw (← ek) (ne_eqb (kind % 2) 0 h) in
      drawn x i at b (1 ∷ 4 ∷ 2 ∷ j ∷ 0x80 ∷ 0 ∷ []) exit entry (rw (odd, eb, ea)) (rw (odd, ej, es, ea)) w
