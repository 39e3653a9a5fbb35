-- Relations by their rows and bits: a number by its bits, the union and the intersection of relations, and a row as a set.
use mathlib.Core.Path.{◌≡◌, refl, ap, ap₂, sym, subst, ◌∙◌}
use mathlib.Core.Bool.{Bool, false, ◌&&◌, ◌||◌}
use Prim.Native.Nat.{ℕ, ◌+◌, ◌*◌, ◌/◌, ◌%◌, ◌^◌, ◌<◌}
use native.Mathlib.Numerals.{add-one}
use native.Mathlib.Omega.{arith}
use lib.Dec.{T, eqb, eqb→eq}
use lib.Pow.{pow-lt}
use lib.Bits.{bit_and, bit_or, or_lt, and_le_r}
use Rattle.terms.specs.Test.{some}
use Rattle.terms.specs.Automaton.{has, set_of}
use Rattle.terms.specs.Relation.{matrix, related}
use Rattle.terms.proofs.Test.{same_test, both, both_0, both_1, equal}
use Rattle.terms.proofs.Automaton.Bits.{set-whole, set_cong, power_has, power_only}
use Rattle.terms.proofs.Automaton.Relation.{matrix_lt, matrix-has}
use Rattle.relations.proofs.Laws.{has_or, has_and, has_shr}

-- a number below 2 ^ n is the set of its bits
pub set-bits : (n x : ℕ) (f : ℕ → Bool) → x < 2 ^ n → ((k : ℕ) → k < n → has x k ≡ f k) → x ≡ set_of n f
set-bits n x f l e = sym (set-whole n x l) ∙ set_cong n (has x) f e

-- a number below 2 ^ 64 is the relation of its pairs
pub matrix-bits : (x : ℕ) (f : ℕ → ℕ → Bool) → x < 2 ^ 64 → ((p q : ℕ) → p < 8 → q < 8 → related x p q ≡ f p q) → x ≡ matrix f
unfolding matrix related
matrix-bits x f l e =
    set-bits 64 x (λ k. f (k / 8) (k % 8)) l
    (λ k h.
    (let i : k ≡ 8 * (k / 8) + k % 8 = omega arith in
    ap (has x) i ∙ e (k / 8) (k % 8) (omega arith) (omega arith)))

pub matrix_or : (f g : ℕ → ℕ → Bool) → bit_or (matrix f) (matrix g) ≡ matrix (λ p q. f p q || g p q)
unfolding related
matrix_or f g =
    matrix-bits (bit_or (matrix f) (matrix g)) (λ p q. f p q || g p q) (or_lt 64 (matrix f) (matrix g) (matrix_lt f) (matrix_lt g))
    (λ p q hp hq.
    has_or (matrix f) (matrix g) (8 * p + q) ∙ ap₂ (λ (s t : Bool). s || t) (matrix-has f p q hp hq) (matrix-has g p q hp hq))

pub and_matrix : (x : ℕ) (f : ℕ → ℕ → Bool) → bit_and x (matrix f) ≡ matrix (λ p q. related x p q && f p q)
unfolding related
and_matrix x f =
    matrix-bits (bit_and x (matrix f)) (λ p q. related x p q && f p q) (omega (arith, and_le_r x (matrix f), matrix_lt f))
    (λ p q hp hq. has_and x (matrix f) (8 * p + q) ∙ ap (λ (t : Bool). related x p q && t) (matrix-has f p q hp hq))

-- row p of a relation, as a set
pub row_has : (x p q : ℕ) → has (x / 2 ^ (8 * p)) q ≡ related x p q
unfolding related
row_has x p q = has_shr x (8 * p) q

-- the union of relations f 0, f 1 and so on, one more at a time
pub union_none : (f : ℕ → ℕ → ℕ → Bool) → 0 ≡ matrix (λ p q. some 0 (f p q))
unfolding matrix set_of some
union_none f = refl

pub union_more : (f : ℕ → ℕ → ℕ → Bool) (x r m : ℕ) → x ≡ matrix (λ p q. f p q m) → r ≡ matrix (λ p q. some m (f p q))
    → bit_or x r ≡ matrix (λ p q. some (m + 1) (f p q))
unfolding some
union_more f x r m a b = rw add-one (ap₂ bit_or a b ∙ matrix_or (λ p q. f p q m) (λ p q. some m (f p q)))

pub power_has_is : (k j : ℕ) → has (2 ^ k) j ≡ eqb k j
power_has_is k j =
    same_test (has (2 ^ k) j) (eqb k j) (λ h. equal k j (power_only k j h)) (λ h. subst (λ (n : ℕ). T (has (2 ^ k) n)) (eqb→eq k j h) (power_has k))

-- the relation of no pair, and of one pair
pub no_pair : 0 ≡ matrix (λ p q. false)
unfolding matrix set_of
no_pair = refl

pub one_pair : (a b : ℕ) → a < 8 → b < 8 → 2 ^ (8 * a + b) ≡ matrix (λ p q. eqb b q && eqb a p)
unfolding related
one_pair a b ha hb = matrix-bits (2 ^ (8 * a + b)) (λ p q. eqb b q && eqb a p) (pow-lt {j = 64} (omega arith)) (λ p q hp hq. power_has_is (8 * a + b) (8 * p + q) ∙ digits p q hq)
  where
    digits : (p q : ℕ) → q < 8 → eqb (8 * a + b) (8 * p + q) ≡ eqb b q && eqb a p
    digits p q hq =
        same_test (eqb (8 * a + b) (8 * p + q)) (eqb b q && eqb a p)
        (λ h.
        (let e = eqb→eq (8 * a + b) (8 * p + q) h in
        both (eqb b q) (eqb a p) (equal b q (omega arith)) (equal a p (omega arith))))
        (λ h.
        (let e = eqb→eq b q (both_0 (eqb b q) (eqb a p) h) in
        let d = eqb→eq a p (both_1 (eqb b q) (eqb a p) h) in
        equal (8 * a + b) (8 * p + q) (omega arith)))
