-- The bits of a union, an intersection, a shift and a remainder, tests of numbers in two parts, and lists by their places.
use mathlib.Core.Path.{◌≡◌, refl, ap, ap₂, sym, ◌∙◌}
use mathlib.Core.List.{List, [], ◌∷◌}
use mathlib.Core.Bool.{Bool, true, false, ◌&&◌, ◌||◌}
use Prim.Native.Nat.{ℕ, zero, suc, ◌+◌, ◌-◌, ◌*◌, ◌/◌, ◌%◌, ◌^◌, ◌≤◌, ◌<◌, min, max}
use native.Mathlib.Nat.{one-mul, add-zero, add-suc, zero-min, zero-max, min-eq_right, max-eq_left, le_of_suc-le-suc}
use native.Mathlib.Omega.{arith}
use lib.Dec.{eqb}
use lib.ListN.{length, get_or, take, drop}
use lib.Seq.{drop-cons}
use lib.Arith.{digits_mod}
use lib.Pow.{shl_exact, shr-shr, field, mod-mod-pow}
use lib.Bits.{bit_and, bit_or, and_step, or_step, and_shr, or_shr}
use Rattle.terms.specs.Test.{any, some, tabulate}
use Rattle.terms.specs.Automaton.{bit, has, set_of}
use Rattle.terms.proofs.Automaton.Bits.{has-set}

digit_or : (d e : ℕ) → d < 2 → e < 2 → eqb (max d e) 1 ≡ eqb d 1 || eqb e 1
digit_or zero e h k = ap (λ (x : ℕ). eqb x 1) (zero-max e)
digit_or (suc zero) e h k = ap (λ (x : ℕ). eqb x 1) (max-eq_left (le_of_suc-le-suc k))
digit_or (suc (suc d)) e h k = absurd (omega arith)

digit_and : (d e : ℕ) → d < 2 → e < 2 → eqb (min d e) 1 ≡ eqb d 1 && eqb e 1
digit_and zero e h k = ap (λ (x : ℕ). eqb x 1) (zero-min e)
digit_and (suc zero) e h k = ap (λ (x : ℕ). eqb x 1) (min-eq_right (le_of_suc-le-suc k))
digit_and (suc (suc d)) e h k = absurd (omega arith)

odd_or : (x y : ℕ) → bit_or x y % 2 ≡ max (x % 2) (y % 2)
odd_or x y = ap (λ (z : ℕ). z % 2) (or_step x y) ∙ digits_mod (bit_or (x / 2) (y / 2)) (omega arith)

odd_and : (x y : ℕ) → bit_and x y % 2 ≡ min (x % 2) (y % 2)
odd_and x y = ap (λ (z : ℕ). z % 2) (and_step x y) ∙ digits_mod (bit_and (x / 2) (y / 2)) (omega arith)

pub has_or : (x y k : ℕ) → has (bit_or x y) k ≡ has x k || has y k
unfolding has bit
has_or x y k =
    ap (λ (z : ℕ). eqb (z % 2) 1) (or_shr x y k) ∙ ap (λ (z : ℕ). eqb z 1) (odd_or (x / 2 ^ k) (y / 2 ^ k))
    ∙ digit_or (x / 2 ^ k % 2) (y / 2 ^ k % 2) (omega arith) (omega arith)

pub has_and : (x y k : ℕ) → has (bit_and x y) k ≡ has x k && has y k
unfolding has bit
has_and x y k =
    ap (λ (z : ℕ). eqb (z % 2) 1) (and_shr x y k) ∙ ap (λ (z : ℕ). eqb z 1) (odd_and (x / 2 ^ k) (y / 2 ^ k))
    ∙ digit_and (x / 2 ^ k % 2) (y / 2 ^ k % 2) (omega arith) (omega arith)

pub has_shr : (x j k : ℕ) → has (x / 2 ^ j) k ≡ has x (j + k)
unfolding has bit
has_shr x j k = ap (λ (z : ℕ). eqb (z % 2) 1) (shr-shr x j k)

low-has : (x j q : ℕ) → has (x % 2 ^ (j + 1 + q)) q ≡ has x q
unfolding has bit
low-has x j q = ap (λ (z : ℕ). eqb (z % 2) 1) (field x (j + 1) q) ∙ ap (λ (z : ℕ). eqb z 1) (mod-mod-pow (x / 2 ^ q) j 1)

pub has-low : (x k q : ℕ) → q < k → has (x % 2 ^ k) q ≡ has x q
has-low x k q h =
    let e : k ≡ k - 1 - q + 1 + q = omega arith in
    ap (λ (n : ℕ). has (x % 2 ^ n) q) e ∙ low-has x (k - 1 - q) q

-- a 1 shifted up within 64 bits
pub one_shl : (k : ℕ) → k < 64 → 1 * 2 ^ k % 2 ^ 64 ≡ 2 ^ k
one_shl k h = shl_exact 1 k 64 (omega arith) (omega arith) ∙ one-mul (2 ^ k)

-- the set of all eight states
pub all_states : (q : ℕ) → q < 8 → has 255 q ≡ true
unfolding set_of
all_states q h = has-set 8 (λ k. true) q h

or_swap : (a b c : Bool) → a || (b || c) ≡ b || (a || c)
or_swap true true c = refl
or_swap true false c = refl
or_swap false b c = refl

pub or_false : (a : Bool) → a ≡ a || false
or_false true = refl
or_false false = refl

-- some number below n + m, by those below n and those from n on
pub some_add : (n m : ℕ) (f : ℕ → Bool) → some (n + m) f ≡ some n f || some m (λ k. f (n + k))
unfolding some
some_add n zero f = rw (add-zero n) (or_false (some n f))
some_add n (suc m) f =
    rw (add-suc n m, some_add n m f) (or_swap (f (n + m)) (some n f) (some m (λ k. f (n + k))))

some-none : (n : ℕ) (f : ℕ → Bool) → ((k : ℕ) → k < n → f k ≡ false) → some n f ≡ false
unfolding some
some-none zero f e = refl
some-none (suc n) f e = rw (e n (omega arith), some-none n f (λ k h. e k (omega arith)))

-- numbers that fail the test may be left out at the end
pub some_gap : (i j : ℕ) (f : ℕ → Bool) → i ≤ j → ((k : ℕ) → i ≤ k → k < j → f k ≡ false) → some i f ≡ some j f
some_gap i j f h e =
    let s : i + (j - i) ≡ j = omega arith in
    or_false (some i f) ∙ ap (λ (t : Bool). some i f || t) (sym (some-none (j - i) (λ k. f (i + k)) (λ k l. e (i + k) (omega arith) (omega arith))))
    ∙ sym (some_add i (j - i) f) ∙ ap (λ (n : ℕ). some n f) s

-- a number below n that passes the test: 0, or one above it
some-front : (n : ℕ) (f : ℕ → Bool) → some (suc n) f ≡ f 0 || some n (λ k. f (suc k))
unfolding some
some-front zero f = refl
some-front (suc n) f = rw (some-front n f) (or_swap (f (suc n)) (f 0) (some n (λ k. f (suc k))))

-- some element of a list that is given by its places
pub any-tabulate : {A : Type 0} (n : ℕ) (f : ℕ → A) (p : A → Bool) → any p (tabulate n f) ≡ some n (λ k. p (f k))
unfolding any tabulate some
any-tabulate zero f p = refl
any-tabulate (suc n) f p =
    ap (λ (t : Bool). p (f 0) || t) (any-tabulate n (λ k. f (suc k)) p) ∙ sym (some-front n (λ k. p (f k)))

pub any_cong : {A : Type 0} (p q : A → Bool) (xs : List A) → ((x : A) → p x ≡ q x) → any p xs ≡ any q xs
unfolding any
any_cong p q [] e = refl
any_cong p q (x ∷ xs) e = rw (e x, any_cong p q xs e)

-- a part of a list, given by its places
pub tabulate_part : (n b : ℕ) (xs : List ℕ) (g : ℕ → ℕ) → b + n ≤ length xs → ((j : ℕ) → j < n → g j ≡ get_or xs (b + j) 0) → tabulate n g ≡ take n (drop b xs)
unfolding tabulate
tabulate_part zero b xs g h e = refl
tabulate_part (suc n) b xs g h e =
    let l : b < length xs = omega arith in
    rw (drop-cons xs b 0 l)
    (ap₂ (λ (y : ℕ) (ys : List ℕ). y ∷ ys) (e 0 (omega arith) ∙ ap (λ (k : ℕ). get_or xs k 0) (omega arith))
    (tabulate_part n (suc b) xs (λ j. g (suc j)) (omega arith) (λ j k. e (suc j) (omega arith) ∙ ap (λ (m : ℕ). get_or xs m 0) (omega arith))))
