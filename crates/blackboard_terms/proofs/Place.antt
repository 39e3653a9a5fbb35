-- Open places of terms: sums over them, and how often a parameter stands in a term whose places are filled.
use mathlib.Core.Path.{◌≡◌, refl, sym, ap₂}
use mathlib.Core.Bool.{Bool, true, false, cond}
use mathlib.Core.Logic.{◌⊎◌, inl, inr}
use Prim.Native.Nat.{ℕ, zero, suc, ◌+◌, ◌*◌, ◌≤◌, ◌<◌}
use native.Mathlib.Omega.{arith}
use native.Mathlib.Nat.{add-mul, zero-mul, one-mul, mul-le-mul_right, eq-or-lt_of_le}
use native.Mathlib.Decide.{dec_lt}
use lib.Dec.{T, eqb, eqb_refl, eqb→eq}
use Rattle.terms.proofs.Grammar.Sum.{sum_below, sum-front}
use Rattle.blackboard_terms.proofs.Term.{Term, Terms, place, symbol, empty, front, size, nth, in_places, in_places_all, over_places, over_all, only, occurs, Linear, Present}

pub only_self : (i x : ℕ) → only i x i ≡ x
only_self i x = go (eqb i i) (eqb_refl i)
  where
    go : (b : Bool) → T b → cond b x 0 ≡ x
    go true t = refl
    go false t = absurd t

pub only_eq : (i k : ℕ) → 0 < only i 1 k → i ≡ k
only_eq i k h = go (eqb i k) (eqb→eq i k) h
  where
    go : (b : Bool) → (T b → i ≡ k) → 0 < cond b 1 0 → i ≡ k
    go true f l = f tt
    go false f l = absurd (omega arith)

only_times : (i x k : ℕ) → only i x k ≡ only i 1 k * x
only_times i x k = go (eqb i k)
  where
    go : (b : Bool) → cond b x 0 ≡ cond b 1 0 * x
    go true = sym (one-mul x)
    go false = sym (zero-mul x)

-- the place of parameter j
pub present-place : (j : ℕ) → Present j (place j)
unfolding over_places
present-place j = omega (arith, only_self j 1)

-- a term with terms in its places: a sum over its places
module _ (h : ℕ → ℕ) (us : Terms) where
  mutual
    unfolding over_places over_all in_places in_places_all

    pub over_in : (t : Term) → over_places h (in_places us t) ≡ over_places (λ k. over_places h (nth us k)) t
    over_in (place j) = refl
    over_in (symbol f ts) = overs_in ts

    overs_in : (ts : Terms) → over_all h (in_places_all us ts) ≡ over_all (λ k. over_places h (nth us k)) ts
    overs_in empty = refl
    overs_in (front t ts) = ap₂ (λ a b. a + b) (over_in t) (overs_in ts)

-- a sum is above 0 where some place counts

pub split : {P : Type 0} (a b : ℕ) → 0 < a + b → (0 < a → P) → (0 < b → P) → P
split zero b h f g = g (omega arith)
split (suc a) b h f g = f (omega arith)

-- sums over the places of a linear term

module _ (a b : ℕ → ℕ) where
  mutual
    unfolding over_places over_all

    over_add : (t : Term) → over_places (λ k. a k + b k) t ≡ over_places a t + over_places b t
    over_add (place i) = refl
    over_add (symbol f ts) = overs_add ts

    overs_add : (ts : Terms) → over_all (λ k. a k + b k) ts ≡ over_all a ts + over_all b ts
    overs_add empty = refl
    overs_add (front t ts) = omega (arith, over_add t, overs_add ts)

  mutual
    unfolding over_places over_all

    over_mono : ((k : ℕ) → a k ≤ b k) → (t : Term) → over_places a t ≤ over_places b t
    over_mono l (place i) = l i
    over_mono l (symbol f ts) = overs_mono l ts

    overs_mono : ((k : ℕ) → a k ≤ b k) → (ts : Terms) → over_all a ts ≤ over_all b ts
    overs_mono l empty = omega arith
    overs_mono l (front t ts) = omega (arith, over_mono l t, overs_mono l ts)

module _ (i x : ℕ) where
  mutual
    unfolding over_places over_all

    over_only : (t : Term) → over_places (only i x) t ≡ occurs i t * x
    over_only (place k) = only_times i x k
    over_only (symbol f ts) = overs_only ts

    overs_only : (ts : Terms) → over_all (only i x) ts ≡ over_all (only i 1) ts * x
    overs_only empty = sym (zero-mul x)
    overs_only (front t ts) = rw add-mul (ap₂ (λ p q. p + q) (over_only t) (overs_only ts))

mutual
  unfolding over_places over_all

  over_none : (t : Term) → over_places (λ k. 0) t ≡ 0
  over_none (place i) = refl
  over_none (symbol f ts) = overs_none ts

  overs_none : (ts : Terms) → over_all (λ k. 0) ts ≡ 0
  overs_none empty = refl
  overs_none (front t ts) = omega (arith, over_none t, overs_none ts)

-- h below n, and 0 from n on
abbrev upto : ℕ → (ℕ → ℕ) → ℕ → ℕ
upto zero h k = 0
upto (suc n) h k = upto n h k + only n (h n) k

upto_above : (n : ℕ) (h : ℕ → ℕ) (k : ℕ) → k < n → h k ≤ upto n h k
upto_above zero h k l = absurd (omega arith)
upto_above (suc n) h k l = go (eq-or-lt_of_le (omega arith)) (upto_above n h k)
  where
    go : (k ≡ n) ⊎ (k < n) → (k < n → h k ≤ upto n h k) → h k ≤ upto n h k + only n (h n) k
    go (inl e) f = rw e (omega (arith, only_self n (h n)))
    go (inr m) f = omega (arith, f m)

times-once : (a x : ℕ) → a ≤ 1 → a * x ≤ x
times-once a x h = rw one-mul at (mul-le-mul_right x h)

over_upto : (t : Term) → Linear t → (n : ℕ) (h : ℕ → ℕ) → over_places (upto n h) t ≤ sum_below n h
over_upto t l zero h = omega (arith, over_none t)
over_upto t l (suc n) h =
    omega (arith, over_add (upto n h) (only n (h n)) t, over_upto t l n h, over_only n (h n) t, times-once (occurs n t) (h n) (l n))

pub over-linear : (t : Term) → Linear t → (n : ℕ) (h : ℕ → ℕ) → ((k : ℕ) → n ≤ k → h k ≡ 0) → over_places h t ≤ sum_below n h
over-linear t l n h z = omega (arith, over_upto t l n h, over_mono h (upto n h) (λ k. go k (dec_lt k n)) t)
  where
    go : (k : ℕ) → Dec (k < n) → h k ≤ upto n h k
    go k (yes m) = upto_above n h k m
    go k (no m) = omega (arith, z k (omega arith))

sum-all : (j : ℕ) (us : Terms) → sum_below (size us) (λ k. occurs j (nth us k)) ≡ over_all (only j 1) us
unfolding over_all size nth
sum-all j empty = refl
sum-all j (front u us) = omega (arith, sum-front (size us) (λ k. occurs j (nth (front u us) k)), sum-all j us)

past_end : (j : ℕ) (us : Terms) (k : ℕ) → size us ≤ k → occurs j (nth us k) ≡ 0
unfolding over_places over_all size nth
past_end j empty k h = refl
past_end j (front u us) zero h = absurd (omega arith)
past_end j (front u us) (suc k) h = past_end j us k (omega arith)

-- a parameter of one of the terms
pub over-nth : (j : ℕ) (us : Terms) (k : ℕ) → Present j (nth us k) → 0 < over_all (only j 1) us
unfolding over_places over_all nth
over-nth j empty k h = h
over-nth j (front u us) zero h = omega arith
over-nth j (front u us) (suc k) h = omega (arith, over-nth j us k h)

-- a linear term with terms in its places has a parameter no more often than those terms have it
pub occurs_in : (j : ℕ) (us : Terms) (t : Term) → Linear t → occurs j (in_places us t) ≤ over_all (only j 1) us
occurs_in j us t l =
    omega (arith, over_in (only j 1) us t, over-linear t l (size us) (λ k. occurs j (nth us k)) (past_end j us), sum-all j us)
