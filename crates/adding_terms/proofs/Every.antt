-- Every rule that a rule calls has a property.
use mathlib.Core.Logic.{◌⊎◌, inl, inr}
use mathlib.Core.Path.{◌≡◌, refl, subst}
use mathlib.Core.Bool.{Bool, false}
use mathlib.Core.List.{List, [], ◌∷◌, ◌++◌}
use Prim.Native.Nat.{ℕ, zero, suc, ◌<◌}
use native.Mathlib.Omega.{arith}
use lib.Dec.{T}
use Rattle.terms.specs.Test.{any}
use Rattle.terms.specs.Form.{Rule, whole, pierced, filled, composed, Slots, Fits}
use Rattle.terms.proofs.Test.{either, either_0, either_1, or_false}
use Rattle.adding_terms.specs.Dependence.{calls_of, Called}

abbrev pub Every : (ℕ → Type 0) → List ℕ → Type 0
Every P [] = Unit {0}
Every P (a ∷ slots) = P a × Every P slots

pub every_map : (P Q : ℕ → Type 0) → ((j : ℕ) → P j → Q j) → (slots : List ℕ) → Every P slots → Every Q slots
every_map P Q g [] p = tt
every_map P Q g (a ∷ slots) p = (g a p.0, every_map P Q g slots p.1)

pub every_with : (P Q R : ℕ → Type 0) → ((j : ℕ) → P j → Q j → R j) → (slots : List ℕ) → Every P slots → Every Q slots → Every R slots
every_with P Q R g [] p q = tt
every_with P Q R g (a ∷ slots) p q = (g a p.0 q.0, every_with P Q R g slots p.1 q.1)

pub every_parts : (P : ℕ → Type 0) (xs ys : List ℕ) → Every P (xs ++ ys) → Every P xs × Every P ys
every_parts P [] ys p = (tt, p)
every_parts P (a ∷ xs) ys p =
    let (h, k) = every_parts P xs ys p.1 in
    ((p.0, h), k)

every_both : (P : ℕ → Type 0) (xs ys : List ℕ) → Every P xs → Every P ys → Every P (xs ++ ys)
every_both P [] ys p q = q
every_both P (a ∷ xs) ys p q = (p.0, every_both P xs ys p.1 q)

pub every-called : (P : ℕ → Type 0) (slots : List ℕ) → Every P slots → (j : ℕ) → Called slots j → P j
every-called P [] p j (k, l, e) = absurd (omega arith)
every-called P (a ∷ slots) p j (zero, l, e) = subst P e p.0
every-called P (a ∷ slots) p j (suc k, l, e) = every-called P slots p.1 j (k, omega arith, e)

-- a test of the rules that are called

pub none_passes : (d : ℕ → Bool) (slots : List ℕ) → any d slots ≡ false → Every (λ j. d j ≡ false) slots
unfolding any
none_passes d [] e = tt
none_passes d (a ∷ slots) e =
    let (h, k) = or_false (d a) (any d slots) e in
    (h, none_passes d slots k)

pub called-passes : (d : ℕ → Bool) (slots : List ℕ) (j : ℕ) → Called slots j → T (d j) → T (any d slots)
unfolding any
called-passes d [] j (k, l, e) h = absurd (omega arith)
called-passes d (a ∷ slots) j (zero, l, e) h = either_0 (d a) (any d slots) (rw e h)
called-passes d (a ∷ slots) j (suc k, l, e) h = either_1 (d a) (any d slots) (called-passes d slots j (k, omega arith, e) h)

pub passes-called : (d : ℕ → Bool) (slots : List ℕ) → T (any d slots) → (j : ℕ) × Called slots j × T (d j)
unfolding any
passes-called d [] h = absurd h
passes-called d (a ∷ slots) h = go (either (d a) (any d slots) h) (passes-called d slots)
  where
    go : T (d a) ⊎ T (any d slots) → (T (any d slots) → (j : ℕ) × Called slots j × T (d j)) → (j : ℕ) × Called (a ∷ slots) j × T (d j)
    go (inl k) ih = (a, (0, omega arith, refl), k)
    go (inr k) ih =
        let (j, (m, l, e), p) = ih k in
        (j, (suc m, omega arith, e), p)

pub any_same : (d e : ℕ → Bool) (slots : List ℕ) → Every (λ j. d j ≡ e j) slots → any d slots ≡ any e slots
unfolding any
any_same d e [] p = refl
any_same d e (a ∷ slots) p = rw (p.0, any_same d e slots p.1)

-- a rule that fits calls lower rules

slots-below : (rules : List Rule) (n : ℕ) (slots : List ℕ) → Slots rules n slots → Every (λ j. j < n) slots
slots-below rules n [] p = tt
slots-below rules n (a ∷ slots) p = (p.0.below, slots-below rules n slots p.1)

pub fits_below : (alphabet : List ℕ) (rules : List Rule) (n : ℕ) (r : Rule) → Fits alphabet rules n r → Every (λ j. j < n) (calls_of r)
fits_below alphabet rules n (whole f slots) p = slots-below rules n slots p.0
fits_below alphabet rules n (pierced f ls rs) p = every_both (λ j. j < n) ls rs (slots-below rules n ls p.0) (slots-below rules n rs p.1)
fits_below alphabet rules n (filled b c) p = (p.0.below, (p.1.below, tt))
fits_below alphabet rules n (composed b c) p = (p.0.below, (p.1.below, tt))
