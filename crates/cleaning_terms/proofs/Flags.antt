-- Flags: how many are true, and the trees of a forest that they choose.
use mathlib.Core.Path.{◌≡◌, refl, ap}
use mathlib.Core.Bool.{Bool, true, false}
use mathlib.Core.List.{List, [], ◌∷◌, append-nil}
use Prim.Native.Nat.{ℕ, zero, suc, ◌≤◌, ◌<◌}
use native.Mathlib.Omega.{arith}
use lib.ListN.{length, get_or, take, replicate}
use Rattle.terms.specs.Test.{tabulate}
use Rattle.terms.specs.Tree.{Forest, none, more, count, pick, preorder, preorders}
use Rattle.terms.specs.Grammar.{Rule}
use Rattle.terms.proofs.Tabulate.{length-tabulate}
use Rattle.cleaning_terms.specs.Cleaning.{stands, present, trues}

-- the trees whose flag is true
unfoldable pub chosen : List Bool → Forest → Forest
chosen [] ts = none
chosen (b ∷ bs) none = none
chosen (true ∷ bs) (more t ts) = more t (chosen bs ts)
chosen (false ∷ bs) (more t ts) = chosen bs ts

pub count_chosen : (bs : List Bool) (ts : Forest) → count ts ≡ length bs → count (chosen bs ts) ≡ trues bs
unfolding chosen count trues
count_chosen [] ts e = refl
count_chosen (b ∷ bs) none e = absurd (omega arith)
count_chosen (true ∷ bs) (more t ts) e = ap suc (count_chosen bs ts (omega arith))
count_chosen (false ∷ bs) (more t ts) e = count_chosen bs ts (omega arith)

pub chosen_all : (n : ℕ) (ts : Forest) → count ts ≡ n → chosen (replicate n true) ts ≡ ts
unfolding chosen count
chosen_all zero none e = refl
chosen_all zero (more t ts) e = absurd (omega arith)
chosen_all (suc n) none e = absurd (omega arith)
chosen_all (suc n) (more t ts) e = ap (more t) (chosen_all n ts (omega arith))

pub chosen_none : (n : ℕ) (ts : Forest) → chosen (replicate n false) ts ≡ none
unfolding chosen
chosen_none zero ts = refl
chosen_none (suc n) none = refl
chosen_none (suc n) (more t ts) = chosen_none n ts

-- the chosen tree j stands behind those that are chosen before it
pub pick_chosen : (bs : List Bool) (ts : Forest) (j : ℕ) → count ts ≡ length bs → get_or bs j false ≡ true → pick (chosen bs ts) (trues (take j bs)) ≡ pick ts j
unfolding chosen count trues pick
pick_chosen [] ts j e h = absurd (let z : ◌≡◌ {A = ℕ} 0 1 = cc in omega arith)
pick_chosen (b ∷ bs) none j e h = absurd (omega arith)
pick_chosen (true ∷ bs) (more t ts) zero e h = refl
pick_chosen (false ∷ bs) (more t ts) zero e h = absurd (let z : ◌≡◌ {A = ℕ} 0 1 = cc in omega arith)
pick_chosen (true ∷ bs) (more t ts) (suc j) e h = pick_chosen bs ts j (omega arith) h
pick_chosen (false ∷ bs) (more t ts) (suc j) e h = pick_chosen bs ts j (omega arith) h

pub preorder_one : (ts : Forest) → count ts ≡ 1 → preorders ts ≡ preorder (pick ts 0)
unfolding count preorders pick
preorder_one none e = absurd (omega arith)
preorder_one (more t none) e = append-nil (preorder t)
preorder_one (more t (more u ts)) e = absurd (omega arith)

-- how many are true

pub trues_le : (bs : List Bool) → trues bs ≤ length bs
unfolding trues
trues_le [] = omega arith
trues_le (true ∷ bs) = omega (arith, trues_le bs)
trues_le (false ∷ bs) = omega (arith, trues_le bs)

pub trues-take : (bs : List Bool) (j : ℕ) → trues (take j bs) ≤ j
unfolding trues
trues-take bs zero = omega arith
trues-take [] (suc j) = omega arith
trues-take (true ∷ bs) (suc j) = omega (arith, trues-take bs j)
trues-take (false ∷ bs) (suc j) = omega (arith, trues-take bs j)

pub trues-replicate : (n : ℕ) → trues (replicate n true) ≡ n
unfolding trues
trues-replicate zero = refl
trues-replicate (suc n) = ap suc (trues-replicate n)

-- below the number of all that are true, and the more the further back
pub trues-below : (bs : List Bool) (j : ℕ) → get_or bs j false ≡ true → trues (take j bs) < trues bs
unfolding trues
trues-below [] j h = absurd (let z : ◌≡◌ {A = ℕ} 0 1 = cc in omega arith)
trues-below (true ∷ bs) zero h = omega arith
trues-below (false ∷ bs) zero h = absurd (let z : ◌≡◌ {A = ℕ} 0 1 = cc in omega arith)
trues-below (true ∷ bs) (suc j) h = omega (arith, trues-below bs j h)
trues-below (false ∷ bs) (suc j) h = trues-below bs j h

pub trues_less : (bs : List Bool) (j k : ℕ) → j < k → get_or bs j false ≡ true → trues (take j bs) < trues (take k bs)
unfolding trues
trues_less bs j zero l h = absurd (omega arith)
trues_less [] j (suc k) l h = absurd (let z : ◌≡◌ {A = ℕ} 0 1 = cc in omega arith)
trues_less (true ∷ bs) zero (suc k) l h = omega arith
trues_less (false ∷ bs) zero (suc k) l h = absurd (let z : ◌≡◌ {A = ℕ} 0 1 = cc in omega arith)
trues_less (true ∷ bs) (suc j) (suc k) l h = omega (arith, trues_less bs j k (omega arith) h)
trues_less (false ∷ bs) (suc j) (suc k) l h = trues_less bs j k (omega arith) h

-- the flag that has so many true ones before it
pub record Flag (bs : List Bool) (n : ℕ) : Type 0 where
  pub place : ℕ
  pub holds : get_or bs place false ≡ true
  pub before : trues (take place bs) ≡ n

pub flag_at : (bs : List Bool) (n : ℕ) → n < trues bs → Flag bs n
unfolding trues
flag_at [] n h = absurd (omega arith)
flag_at (true ∷ bs) zero h = record { place = 0; holds = refl; before = refl }
flag_at (true ∷ bs) (suc n) h = let f = flag_at bs n (omega arith) in record { place = suc f.place; holds = f.holds; before = ap suc f.before }
flag_at (false ∷ bs) n h = let f = flag_at bs n h in record { place = suc f.place; holds = f.holds; before = f.before }

-- flags by a test

trues-none : (n : ℕ) (p : ℕ → Bool) → ((k : ℕ) → k < n → p k ≡ false) → trues (tabulate n p) ≡ 0
unfolding trues tabulate
trues-none zero p h = refl
trues-none (suc n) p h = rw (h 0 (omega arith)) (trues-none n (λ k. p (suc k)) (λ k l. h (suc k) (omega arith)))

-- one number alone passes
pub trues_one : (n : ℕ) (p : ℕ → Bool) (j : ℕ) → j < n → p j ≡ true → ((k : ℕ) → (k ≡ j → ⊥) → p k ≡ false) → trues (tabulate n p) ≡ 1
unfolding trues tabulate
trues_one zero p j l e h = absurd (omega arith)
trues_one (suc n) p zero l e h = rw e (ap suc (trues-none n (λ k. p (suc k)) (λ k m. h (suc k) (λ q. omega arith))))
trues_one (suc n) p (suc j) l e h = rw (h 0 (λ q. omega arith)) (trues_one n (λ k. p (suc k)) j (omega arith) e (λ k m. h (suc k) (λ q. m (omega arith))))

pub tabulate-all : (n : ℕ) (p : ℕ → Bool) → ((k : ℕ) → k < n → p k ≡ true) → tabulate n p ≡ replicate n true
unfolding tabulate
tabulate-all zero p h = refl
tabulate-all (suc n) p h = rw (h 0 (omega arith)) (ap (λ (l : List Bool). true ∷ l) (tabulate-all n (λ k. p (suc k)) (λ k l. h (suc k) (omega arith))))

pub trues_take_replicate : (n j : ℕ) → j ≤ n → trues (take j (replicate n true)) ≡ j
unfolding trues
trues_take_replicate n zero l = refl
trues_take_replicate zero (suc j) l = absurd (omega arith)
trues_take_replicate (suc n) (suc j) l = ap suc (trues_take_replicate n j (omega arith))

-- where a flag is true, there is one
pub flag_inside : (bs : List Bool) (j : ℕ) → get_or bs j false ≡ true → j < length bs
flag_inside [] j h = absurd (let z : ◌≡◌ {A = ℕ} 0 1 = cc in omega arith)
flag_inside (b ∷ bs) zero h = omega arith
flag_inside (b ∷ bs) (suc j) h = omega (arith, flag_inside bs j h)

pub length-present : (r : Rule) → length (present r) ≡ r.rank
unfolding present
length-present r = length-tabulate r.rank (stands r.nodes)
