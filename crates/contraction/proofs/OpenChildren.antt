-- A terminal over what cells represent: which of the cells are open, and what the slots of its rule are.
use mathlib.Core.Path.{◌≡◌, refl, sym, subst, ap, ◌∙◌}
use mathlib.Core.Bool.{Bool, true, false}
use mathlib.Core.List.{List, [], ◌∷◌, ◌++◌}
use Prim.Native.Nat.{ℕ, zero, suc, ◌+◌, ◌-◌, ◌≤◌, ◌<◌}
use native.Mathlib.Omega.{arith}
use native.Mathlib.Decide.{dec_lt}
use borrow.Author.Tests.{lt-ltb, le-ltb, eq-eqb, ne_eqb}
use lib.ListN.{length, get_or, drop, get_or-eq_default, length-append}
use lib.Seq.{drop-cons, get_or-append_seam}
use Rattle.skeletons.specs.Skeleton.{Skeleton, Skeletons, param, shut, under, branch, nil, cons}
use Rattle.skeletons.specs.Make.{Sort, closed, single, several, front, ahead, place, sort}
use Rattle.skeletons.specs.Skeleton.{size}
use Rattle.terms.specs.Form.{whole, pierced}
use Rattle.terms.specs.FormBytes.{unused}
use Rattle.form_writing.specs.Bytes.{fields_with, fields_for}
use Rattle.cells.specs.Cells.{cell_at, is_closed, slot_for, Stands, Row}
use Rattle.cells.specs.declared.cells.Cell.{Cell}
use Rattle.contraction.specs.Terminal.{with_child, Sorted, OpenBelow, slot_at, fields_over}
use Rattle.contraction.specs.declared.contract_terminal.Open.{Open}
use Rattle.contraction.specs.declared.contract_terminal.Open.TheVariants.{Nowhere, At, Several}

-- one child more in front

front-sorted : (s : Skeleton) (from : ℕ) (o : Open) (t : Sort) → Sorted (suc from) o t → Sorted from (with_child false from o) (front s t)
front-sorted s from Nowhere (closed slots) h = omega arith
front-sorted s from Nowhere (single ls u rs) h = absurd h
front-sorted s from Nowhere several h = absurd h
front-sorted s from (At p) (closed slots) h = absurd h
front-sorted s from (At p) (single ls u rs) h = tt
front-sorted s from (At p) several h = absurd h
front-sorted s from Several (closed slots) h = absurd h
front-sorted s from Several (single ls u rs) h = absurd h
front-sorted s from Several several h = tt

ahead-sorted : (a from : ℕ) (o : Open) (t : Sort) → Sorted (suc from) o t → Sorted from o (ahead a t)
ahead-sorted a from Nowhere (closed slots) h = tt
ahead-sorted a from Nowhere (single ls u rs) h = absurd h
ahead-sorted a from Nowhere several h = absurd h
ahead-sorted a from (At p) (closed slots) h = absurd h
ahead-sorted a from (At p) (single ls u rs) h = omega arith
ahead-sorted a from (At p) several h = absurd h
ahead-sorted a from Several (closed slots) h = absurd h
ahead-sorted a from Several (single ls u rs) h = absurd h
ahead-sorted a from Several several h = tt

place-sorted : (cells : List Cell) (x from : ℕ) (o : Open) (s : Skeleton) (t : Sort) → Stands cells x s → Sorted (suc from) o t
    → Sorted from (with_child (is_closed (cell_at cells x)) from o) (place s t)
place-sorted cells x from o (param i) t p h = rw p (front-sorted (param i) from o t h)
place-sorted cells x from o (shut a) t p h = rw p (ahead-sorted a from o t h)
place-sorted cells x from o (under c s) t (child, is, lower, p) h = rw is (front-sorted (under c s) from o t h)
place-sorted cells x from o (branch f ss) t (xs, is, four, p) h = rw is (front-sorted (branch f ss) from o t h)

-- which of the children from a place on are open
pub record SortedFrom (cells : List Cell) (xs : List ℕ) (from : ℕ) (o : Open) : Type 0 where
  pub within : OpenBelow (length xs) o
  pub sorted : (limit : ℕ) (ss : Skeletons) → Row cells limit (drop from xs) ss → size ss ≡ length xs - from → Sorted from o (sort ss)

pub sorted_none : (cells : List Cell) (xs : List ℕ) → SortedFrom cells xs (length xs) Nowhere
sorted_none cells xs = record { within = tt; sorted = λ limit ss p e. go ss e }
  where
    go : (ss : Skeletons) → size ss ≡ length xs - length xs → Sorted (length xs) Nowhere (sort ss)
    go nil e = tt
    go (cons s ss) e = absurd (omega arith)

within_more : (rank place : ℕ) (b : Bool) (o : Open) → place < rank → OpenBelow rank o → OpenBelow rank (with_child b place o)
within_more rank place true o h w = w
within_more rank place false Nowhere h w = h
within_more rank place false (At p) h w = tt
within_more rank place false Several h w = tt

pub sorted-turn : (cells : List Cell) (xs : List ℕ) (j j₀ : ℕ) (o o' : Open) → j₀ ≡ suc j → j₀ ≤ length xs
    → SortedFrom cells xs j₀ o → o' ≡ with_child (is_closed (cell_at cells (get_or xs j 0))) j o → SortedFrom cells xs j o'
sorted-turn cells xs j j₀ o o' e l h w =
    rw w
    record {
      within = within_more (length xs) j (is_closed (cell_at cells (get_or xs j 0))) o (omega arith) h.within;
      sorted = λ limit ss p n. go limit ss (rw (drop-cons xs j 0 (omega arith)) at p) n;
    }
  where
    later : SortedFrom cells xs (suc j) o
    later = subst (λ (n : ℕ). SortedFrom cells xs n o) e h

    go : (limit : ℕ) (ss : Skeletons) → Row cells limit (get_or xs j 0 ∷ drop (suc j) xs) ss → size ss ≡ length xs - j
        → Sorted j (with_child (is_closed (cell_at cells (get_or xs j 0))) j o) (sort ss)
    go limit nil p n = absurd (omega arith)
    go limit (cons s ss) p n = place-sorted cells (get_or xs j 0) j o s (sort ss) p.1 (later.sorted limit ss p.2 (omega arith))

-- the rule of a terminal

slots-over : (cells : List Cell) (kind f hole : ℕ) (xs slots : List ℕ) → ((j : ℕ) → slot_at cells xs hole j ≡ get_or slots j unused)
    → fields_over cells kind f hole xs ≡ fields_with kind f hole slots
slots-over cells kind f hole xs slots e = rw (e 0, e 1, e 2, e 3)

-- the numbers of closed children, and of children of which one is open

pub record ClosedRow (cells : List Cell) (xs : List ℕ) (n : ℕ) (slots : List ℕ) : Type 0 where
  pub count : length slots ≡ n
  pub each : (j : ℕ) → j < n → slot_for (cell_at cells (get_or xs j 0)) ≡ get_or slots j unused

pub record SingleRow (cells : List Cell) (limit : ℕ) (xs : List ℕ) (n : ℕ) (ls : List ℕ) (s : Skeleton) (rs : List ℕ) : Type 0 where
  pub count : length ls + suc (length rs) ≡ n
  pub each : (j : ℕ) → j < n → (j ≡ length ls → ⊥) → slot_for (cell_at cells (get_or xs j 0)) ≡ get_or (ls ++ (unused ∷ rs)) j unused
  pub lower : get_or xs (length ls) 0 < limit
  pub stands : Stands cells (get_or xs (length ls) 0) s

abbrev pub Described : List Cell → ℕ → List ℕ → ℕ → Sort → Type 0
Described cells limit xs n (closed slots) = ClosedRow cells xs n slots
Described cells limit xs n (single ls s rs) = SingleRow cells limit xs n ls s rs
Described cells limit xs n several = Unit {0}

module _ (cells : List Cell) (limit x : ℕ) (xs : List ℕ) (n : ℕ) where
  front-described : (s : Skeleton) (t : Sort) → x < limit → Stands cells x s → Described cells limit xs n t → Described cells limit (x ∷ xs) (suc n) (front s t)
  front-described s (closed slots) h p d = record { count = omega (arith, d.count); each = each; lower = h; stands = p }
    where
      each : (j : ℕ) → j < suc n → (j ≡ 0 → ⊥) → slot_for (cell_at cells (get_or (x ∷ xs) j 0)) ≡ get_or (unused ∷ slots) j unused
      each zero l z = absurd (z refl)
      each (suc j) l z = d.each j (omega arith)
  front-described s (single ls u rs) h p d = tt
  front-described s several h p d = tt

  ahead-described : (a : ℕ) (t : Sort) → slot_for (cell_at cells x) ≡ a → Described cells limit xs n t → Described cells limit (x ∷ xs) (suc n) (ahead a t)
  ahead-described a (closed slots) e d = record { count = ap suc d.count; each = each }
    where
      each : (j : ℕ) → j < suc n → slot_for (cell_at cells (get_or (x ∷ xs) j 0)) ≡ get_or (a ∷ slots) j unused
      each zero l = e
      each (suc j) l = d.each j (omega arith)
  ahead-described a (single ls u rs) e d = record { count = omega (arith, d.count); each = each; lower = d.lower; stands = d.stands }
    where
      each : (j : ℕ) → j < suc n → (j ≡ suc (length ls) → ⊥) → slot_for (cell_at cells (get_or (x ∷ xs) j 0)) ≡ get_or (a ∷ (ls ++ (unused ∷ rs))) j unused
      each zero l z = e
      each (suc j) l z = d.each j (omega arith) (λ q. z (omega arith))
  ahead-described a several e d = tt

  place-described : (s : Skeleton) (t : Sort) → x < limit → Stands cells x s → Described cells limit xs n t → Described cells limit (x ∷ xs) (suc n) (place s t)
  place-described (param i) t h p d = front-described (param i) t h p d
  place-described (shut a) t h p d = ahead-described a t (ap slot_for p) d
  place-described (under c s) t h p d = front-described (under c s) t h p d
  place-described (branch f ss) t h p d = front-described (branch f ss) t h p d

pub described : (cells : List Cell) (limit : ℕ) (xs : List ℕ) (ss : Skeletons) → Row cells limit xs ss → Described cells limit xs (size ss) (sort ss)
described cells limit xs nil p = record { count = refl; each = λ j h. absurd (omega arith) }
described cells limit [] (cons s ss) p = absurd p
described cells limit (x ∷ xs) (cons s ss) p = place-described cells limit x xs (size ss) s (sort ss) p.0 p.1 (described cells limit xs ss p.2)

-- the slots of the rule

module _ (cells : List Cell) (xs : List ℕ) where
  closed_slot : (slots : List ℕ) → ClosedRow cells xs (length xs) slots → (j : ℕ) → slot_at cells xs 0 j ≡ get_or slots j unused
  closed_slot slots d j = go (dec_lt j (length xs))
    where
      go : Dec (j < length xs) → slot_at cells xs 0 j ≡ get_or slots j unused
      go (yes h) = rw (lt-ltb j (length xs) h, ne_eqb (suc j) 0 (λ z. omega arith)) (d.each j h)
      go (no h) = rw (le-ltb j (length xs) (omega arith)) (sym (get_or-eq_default slots unused {n = j} (omega (arith, d.count))))

  single_slot : (limit : ℕ) (ls : List ℕ) (s : Skeleton) (rs : List ℕ) → SingleRow cells limit xs (length xs) ls s rs
      → (j : ℕ) → slot_at cells xs (suc (length ls)) j ≡ get_or (ls ++ (unused ∷ rs)) j unused
  single_slot limit ls s rs d j = go (dec_lt j (length xs)) (dec_lt j (length ls)) (dec_lt (length ls) j)
    where
      away : j < length xs → (j ≡ length ls → ⊥) → slot_at cells xs (suc (length ls)) j ≡ get_or (ls ++ (unused ∷ rs)) j unused
      away h z = rw (lt-ltb j (length xs) h, ne_eqb (suc j) (suc (length ls)) (λ q. z (omega arith))) (d.each j h z)

      go : Dec (j < length xs) → Dec (j < length ls) → Dec (length ls < j) → slot_at cells xs (suc (length ls)) j ≡ get_or (ls ++ (unused ∷ rs)) j unused
      go (no h) b c = rw (le-ltb j (length xs) (omega arith)) (sym (get_or-eq_default (ls ++ (unused ∷ rs)) unused {n = j} (omega (arith, d.count, length-append ls (unused ∷ rs)))))
      go (yes h) (yes b) c = away h (λ q. omega arith)
      go (yes h) (no b) (yes c) = away h (λ q. omega arith)
      go (yes h) (no b) (no c) =
          let e : j ≡ length ls = omega arith in
          rw (lt-ltb j (length xs) h, eq-eqb (suc j) (suc (length ls)) (ap suc e)) (sym (ap (λ m. get_or (ls ++ (unused ∷ rs)) m unused) e ∙ get_or-append_seam ls unused rs unused))

  -- the fields of the rule
  pub closed_fields_lem : (f : ℕ) (slots : List ℕ) → ClosedRow cells xs (length xs) slots → fields_over cells 0 f 0 xs ≡ fields_for (whole f slots)
  closed_fields_lem f slots d = slots-over cells 0 f 0 xs slots (closed_slot slots d)

  pub single_fields : (f limit : ℕ) (ls : List ℕ) (s : Skeleton) (rs : List ℕ) → SingleRow cells limit xs (length xs) ls s rs
      → fields_over cells 1 f (suc (length ls)) xs ≡ fields_for (pierced f ls rs)
  single_fields f limit ls s rs d = slots-over cells 1 f (suc (length ls)) xs (ls ++ (unused ∷ rs)) (single_slot limit ls s rs d)
