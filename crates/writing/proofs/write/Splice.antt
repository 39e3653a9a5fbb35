-- Symbols that are written into a list one behind the other, with a gap between them.
use mathlib.Core.Path.{◌≡◌, refl, sym, ◌∙◌, ap}
use mathlib.Core.List.{List, [], ◌∷◌, ◌++◌}
use Prim.Native.Nat.{ℕ, suc, ◌+◌, ◌≤◌}
use native.Mathlib.Nat.{add-zero}
use native.Mathlib.Numerals.{add-one}
use native.Mathlib.Omega.{arith}
use lib.ListN.{length, set, length-append}
use lib.Seq.{sets, set_comm}
use Rattle.writing.specs.Writing.{spliced}

-- two lists of symbols written one behind the other
pub sets_append : (l : List ℕ) (i : ℕ) (xs ys : List ℕ) → sets l i (xs ++ ys) ≡ sets (sets l i xs) (i + length xs) ys
sets_append l i [] ys = rw add-zero
sets_append l i (x ∷ xs) ys =
    let e : suc i + length xs ≡ i + suc (length xs) = omega arith in
    sets_append (set l i x) (suc i) xs ys ∙ rw e

set_sets : (l : List ℕ) (i j x : ℕ) (xs : List ℕ) → i + length xs ≤ j → sets (set l j x) i xs ≡ set (sets l i xs) j x
set_sets l i j x [] h = refl
set_sets l i j x (y ∷ xs) h = rw (set_comm l j i x y (λ e. omega arith)) (set_sets (set l i y) (suc i) j x xs (omega arith))

-- symbols at places that are apart are written in any order
sets_comm : (l : List ℕ) (i j : ℕ) (xs ys : List ℕ) → i + length xs ≤ j → sets (sets l j ys) i xs ≡ sets (sets l i xs) j ys
sets_comm l i j xs [] h = refl
sets_comm l i j xs (y ∷ ys) h = sets_comm (set l j y) i (suc j) xs ys (omega arith) ∙ rw (set_sets l i j y xs h)

-- without a gap the symbols are one list
pub no_gap : (l : List ℕ) (at : ℕ) (xs ys : List ℕ) → spliced l at xs 0 ys ≡ sets l at (xs ++ ys)
no_gap l at xs ys = rw (sets_append l at xs ys, add-zero)

-- f and what its slots have, without an open place
pub node-whole : (l l' : List ℕ) (at f : ℕ) (xs : List ℕ) → l' ≡ sets (set l at f) (at + 1) xs → l' ≡ sets l at (f ∷ xs)
node-whole l l' at f xs e = e ∙ rw add-one

-- f and what its slots have, with a gap between them
pub node-pierced : (l l' l'' : List ℕ) (at f end gap : ℕ) (xs ys : List ℕ) → l' ≡ sets (set l at f) (at + 1) xs → end ≡ at + 1 + length xs
    → l'' ≡ sets l' (end + gap) ys → l'' ≡ spliced l at (f ∷ xs) gap ys
node-pierced l l' l'' at f end gap xs ys e place e' =
    let there : end + gap ≡ at + suc (length xs) + gap = omega arith in
    e' ∙ rw (node-whole l l' at f xs e, there)

-- B with room for C and a gap, then C in that room
pub chained : (l l' l'' : List ℕ) (at m n gap : ℕ) (xs ys us vs : List ℕ) → m ≡ length xs → n ≡ length us + length vs
    → l' ≡ spliced l at xs (n + gap) ys → l'' ≡ spliced l' (at + m) us gap vs → l'' ≡ spliced l at (xs ++ us) gap (vs ++ ys)
chained l l' l'' at m n gap xs ys us vs size size' e e' =
    let first = sets l at xs in
    let inner = at + length xs in
    let next = inner + length us + gap in
    let last : inner + (n + gap) ≡ next + length vs = omega arith in
    let place : at + length (xs ++ us) + gap ≡ next = omega (arith, length-append xs us) in
    e'
    ∙ rw (e, size, last)
    (ap (λ (k : List ℕ). sets k next vs) (sets_comm first inner (next + length vs) us ys (omega arith))
    ∙ sets_comm (sets first inner us) next (next + length vs) vs ys (omega arith)
    ∙ sym (sets_append (sets first inner us) next vs ys)
    ∙ rw (place, sets_append l at xs us))
