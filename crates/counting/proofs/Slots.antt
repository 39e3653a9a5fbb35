-- The slots of a rule, from one place on.
use mathlib.Core.Path.{◌≡◌, refl, ◌∙◌, ap, ap₂}
use mathlib.Core.List.{[], ◌∷◌}
use Prim.Native.Nat.{ℕ, zero, suc, ◌+◌, ◌-◌, ◌≤◌, ◌<◌}
use native.Mathlib.Nat.{add-zero}
use native.Mathlib.Omega.{arith}
use Rattle.terms.specs.Test.{tabulate}
use Rattle.counting.specs.Private.Counts.{slots_from}

tabulate-same : {A : Type 0} (n : ℕ) (f g : ℕ → A) → ((k : ℕ) → f k ≡ g k) → tabulate n f ≡ tabulate n g
unfolding tabulate
tabulate-same zero f g e = refl
tabulate-same (suc n) f g e = ap₂ ◌∷◌ (e 0) (tabulate-same n (λ k. f (suc k)) (λ k. g (suc k)) (λ k. e (suc k)))

module _ (slot : ℕ → ℕ) (from to : ℕ) where
  pub slots-none : to ≤ from → slots_from slot from to ≡ []
  unfolding tabulate
  slots-none h =
      let e : to - from ≡ 0 = omega arith in
      rw e

  pub slots-more : from < to → slots_from slot from to ≡ slot from ∷ slots_from slot (from + 1) to
  unfolding tabulate
  slots-more h =
      let e : to - from ≡ suc (to - (from + 1)) = omega arith in
      let next : (k : ℕ) → slot (from + suc k) ≡ slot (from + 1 + k) = λ k. let f : from + suc k ≡ from + 1 + k = omega arith in ap slot f in
      rw e (ap₂ ◌∷◌ (ap slot (add-zero from)) (tabulate-same (to - (from + 1)) (λ k. slot (from + suc k)) (λ k. slot (from + 1 + k)) next))

-- all slots
pub slots-all : (slot : ℕ → ℕ) (n : ℕ) → slots_from slot 0 n ≡ tabulate n slot
slots-all slot n =
    let e : n - 0 ≡ n = omega arith in
    rw e (tabulate-same n (λ k. slot (0 + k)) slot (λ k. let f : 0 + k ≡ k = omega arith in ap slot f))

-- the slots from the place before
pub slots-back : (slot : ℕ → ℕ) (from to : ℕ) → 0 < from → from ≤ to → slots_from slot (from - 1) to ≡ slot (from - 1) ∷ slots_from slot from to
slots-back slot from to h k =
    let e : from - 1 + 1 ≡ from = omega arith in
    slots-more slot (from - 1) to (omega arith) ∙ ap (λ n. slot (from - 1) ∷ slots_from slot n to) e
