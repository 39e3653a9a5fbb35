-- What the sort of skeletons says of them.
use mathlib.Core.Path.{◌≡◌, refl, ap}
use mathlib.Core.List.{List, [], ◌∷◌}
use Prim.Native.Nat.{ℕ, ◌≤◌}
use native.Mathlib.Omega.{arith}
use Rattle.skeletons.specs.Skeleton.{Skeleton, Skeletons, param, shut, under, branch, nil, cons}
use Rattle.skeletons.specs.Make.{Sort, closed, single, several, front, ahead, place, sort}
use Rattle.skeletons.proofs.Skeleton.{link, shuts, openness, opens}

abbrev pub Sorted : Skeletons → Sort → Type 0
Sorted ss (closed as') = ss ≡ shuts as'
Sorted ss (single ls s rs) = (openness s ≡ 1) × (ss ≡ link (shuts ls) (cons s (shuts rs)))
Sorted ss several = 2 ≤ opens ss

opens_link : (ls : List ℕ) (ss : Skeletons) → opens (link (shuts ls) ss) ≡ opens ss
opens_link [] ss = refl
opens_link (a ∷ ls) ss = omega (arith, opens_link ls ss)

front_right : (s : Skeleton) (ss : Skeletons) (x : Sort) → openness s ≡ 1 → Sorted ss x → Sorted (cons s ss) (front s x)
front_right s ss (closed as') o e = (o, ap (cons s) e)
front_right s ss (single ls u rs) o e = omega (arith, ap opens e.1, opens_link ls (cons u (shuts rs)))
front_right s ss several o e = omega arith

ahead_right : (a : ℕ) (ss : Skeletons) (x : Sort) → Sorted ss x → Sorted (cons (shut a) ss) (ahead a x)
ahead_right a ss (closed as') e = ap (cons (shut a)) e
ahead_right a ss (single ls u rs) e = (e.0, ap (cons (shut a)) e.1)
ahead_right a ss several e = omega arith

place_right : (s : Skeleton) (ss : Skeletons) (x : Sort) → Sorted ss x → Sorted (cons s ss) (place s x)
place_right (param i) ss x e = front_right (param i) ss x refl e
place_right (shut a) ss x e = ahead_right a ss x e
place_right (under c s) ss x e = front_right (under c s) ss x refl e
place_right (branch f us) ss x e = front_right (branch f us) ss x refl e

pub sort_right : (ss : Skeletons) → Sorted ss (sort ss)
sort_right nil = refl
sort_right (cons s ss) = place_right s ss (sort ss) (sort_right ss)
