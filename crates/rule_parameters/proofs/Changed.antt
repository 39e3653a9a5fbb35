-- Nodes that are changed in their places, from the first to the last.
use mathlib.Core.Path.{◌≡◌, refl, ◌∙◌, ap}
use mathlib.Core.List.{List, [], ◌∷◌, ◌++◌, map, append-nil}
use Prim.Native.Nat.{ℕ, zero, suc, ◌+◌, ◌<◌}
use native.Mathlib.Omega.{arith}
use native.Mathlib.Numerals.{add-one}
use lib.ListN.{length, get_or, take, drop, set, length-set}
use lib.Seq.{take-length, drop-length}

-- nodes of which those before a place are changed
abbrev changed_upto : (ℕ → ℕ) → ℕ → List ℕ → List ℕ
changed_upto f n nodes = map f (take n nodes) ++ drop n nodes

read_next : (f : ℕ → ℕ) (n : ℕ) (nodes : List ℕ) → get_or (changed_upto f n nodes) n 0 ≡ get_or nodes n 0
read_next f zero nodes = refl
read_next f (suc n) [] = refl
read_next f (suc n) (m ∷ nodes) = read_next f n nodes

write_next : (f : ℕ → ℕ) (n : ℕ) (nodes : List ℕ) → n < length nodes → set (changed_upto f n nodes) n (f (get_or nodes n 0)) ≡ changed_upto f (suc n) nodes
write_next f n [] h = absurd (omega arith)
write_next f zero (m ∷ nodes) h = refl
write_next f (suc n) (m ∷ nodes) h = ap (λ (l : List ℕ). f m ∷ l) (write_next f n nodes (omega arith))

-- a list is such nodes, and as long as they were at entry
pub record ChangedUpto (f : ℕ → ℕ) (entry : List ℕ) (n : ℕ) (nodes : List ℕ) : Type 0 where
  pub long : length nodes ≡ length entry
  pub changed : nodes ≡ changed_upto f n entry

pub one_changed : {f : ℕ → ℕ} {entry : List ℕ} {n : ℕ} {nodes : List ℕ} → ChangedUpto f entry n nodes → n < length nodes
    → {m : ℕ} → m ≡ f (get_or nodes n 0) → ChangedUpto f entry (n + 1) (set nodes n m)
one_changed {f} {entry} {n} {nodes} c more {m} e = record {
  long = length-set nodes n m ∙ c.long;
  changed = rw (add-one, e, c.changed, read_next f n entry) (write_next f n entry (omega (arith, c.long)));
}

pub all_changed : {f : ℕ → ℕ} {entry : List ℕ} {n : ℕ} {nodes : List ℕ} → ChangedUpto f entry n nodes → n ≡ length nodes → nodes ≡ map f entry
all_changed {f} {entry} c h = c.changed ∙ rw (h, c.long, take-length entry, drop-length entry) (append-nil (map f entry))
