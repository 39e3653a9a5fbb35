-- What adding a rule and adding a cell do to the table and the cells.
use mathlib.Core.Path.{◌≡◌, refl, ap, ◌∙◌}
use mathlib.Core.List.{List, [], ◌∷◌, ◌++◌}
use Prim.Native.Nat.{ℕ, ◌+◌, ◌≤◌, ◌<◌}
use native.Mathlib.Omega.{arith}
use lib.ListN.{length, get_or, drop, length-append, length-drop}
use Rattle.terms.specs.Form.{Rule}
use Rattle.skeletons.specs.Skeleton.{Skeleton, Skeletons, under, branch, size}
use Rattle.terms.proofs.Form.Valid.{length-end}
use Rattle.form_bytes.specs.declared.rule.FormRule.{FormRule}
use Rattle.form_writing.specs.Bytes.{fields_for, Holds}
use Rattle.cells.specs.Cells.{cell_at, Stands, Row, children_from}
use Rattle.cells.specs.Builder.{RuleAdded, CellAdded, Room, Grown}
use Rattle.cells.specs.declared.builder.FormBuilder.{FormBuilder}
use Rattle.cells.specs.declared.cells.Cell.{Cell}
use Rattle.cells.specs.declared.cells.Cell.TheVariants.{Over, Terminal}
use Rattle.form_writing.proofs.Held.{held_more}
use Rattle.cells.proofs.Standing.{stands-kept, row_kept, row_raised, row_extended}

-- a rule added

module _ {rule : FormRule} {b b' : FormBuilder} {number : ℕ} (a : RuleAdded rule b number b') (rs : List Rule) (x : Rule) (held : Holds b.table.now rs) (counted : b.next_rule.0 ≡ length rs) where
  pub added_held : rule ≡ fields_for x → Holds b'.table.now (rs ++ (x ∷ []))
  added_held e = held_more b'.table.now b.table.now rs x held (rw (e, counted) at a.written)

  pub added_counted : b'.next_rule.0 ≡ length (rs ++ (x ∷ []))
  added_counted = omega (arith, a.next, length-end rs x)

-- a cell added

module _ {cell : Cell} {b b' : FormBuilder} {number : ℕ} (a : CellAdded cell b number b') where
  pub new-cell : cell_at b'.cells number ≡ cell
  new-cell = ap (cell_at b'.cells) a.numbered ∙ a.there

  pub cell-stands : (c : ℕ) (s : Skeleton) → c < b.next_cell → Stands b.cells c s → Stands b'.cells c s
  cell-stands c s h p = stands-kept b'.cells b.cells b.next_cell a.below c s h p

  pub cell_row : (xs : List ℕ) (ss : Skeletons) → Row b.cells b.next_cell xs ss → Row b'.cells b.next_cell xs ss
  cell_row xs ss p = row_kept b'.cells b.cells b.next_cell a.below b.next_cell xs ss (omega arith) p

  pub made-lower : number < b'.next_cell
  made-lower = omega (arith, a.numbered, a.next)

  pub cell-grown : Grown 0 1 b b'
  cell-grown = record {
    lent = a.lent;
    long = ap length a.table;
    more-rules = omega (arith, ap (λ (r : _). r.0) a.rule);
    few-rules = omega (arith, ap (λ (r : _). r.0) a.rule);
    more-cells = omega (arith, a.next);
    few-cells = omega (arith, a.next);
    behind = λ k h. ap (λ (t : List ℕ). get_or t k 0) a.table;
    below = a.below;
  }

module _ {b b' : FormBuilder} {number : ℕ} where
  pub under-stands : (c child : ℕ) (s : Skeleton) → child < b.next_cell → Stands b.cells child s → CellAdded (Over (record { 0 = c }) child) b number b'
      → Stands b'.cells number (under c s)
  under-stands c child s h p a = (child, new-cell a, omega (arith, a.numbered), cell-stands a child s h p)

  pub branch-stands : (f : ℕ) (xs : List ℕ) (ss : Skeletons) → length xs ≡ size ss → length xs ≤ 4 → Row b.cells b.next_cell xs ss
      → CellAdded (Terminal (record { 0 = f }) (length xs) (children_from xs)) b number b' → Stands b'.cells number (branch f ss)
  branch-stands f xs ss count few p a = (
    children_from xs,
    new-cell a ∙ ap (λ (n : ℕ). Terminal (record { 0 = f }) n (children_from xs)) count,
    omega (arith, length-append xs (drop (length xs) (0 ∷ 0 ∷ 0 ∷ 0 ∷ [])), length-drop {A = ℕ} (length xs) (0 ∷ 0 ∷ 0 ∷ 0 ∷ [])),
    rw a.numbered (row_extended b'.cells b.next_cell xs _ ss (cell_row a xs ss p)),
  )

-- a rule added

pub rule-grown : {rule : FormRule} {b b' : FormBuilder} {number : ℕ} → RuleAdded rule b number b' → Grown 1 0 b b'
rule-grown a = record {
  lent = a.lent;
  long = a.written.kept.long;
  more-rules = omega (arith, a.next);
  few-rules = omega (arith, a.next);
  more-cells = omega (arith, a.cell);
  few-cells = omega (arith, a.cell);
  behind = λ k h. a.written.kept.behind k (omega (arith, a.next));
  below = λ c h. ap (λ (l : List Cell). cell_at l c) a.cells;
}

-- one step after another, and a step that adds less
pub grown-then : {m n m' n' : ℕ} {b b' b'' : FormBuilder} → Grown m n b b' → Grown m' n' b' b'' → Grown (m + m') (n + n') b b''
grown-then a a' = record {
  lent = a'.lent ∙ a.lent;
  long = a'.long ∙ a.long;
  more-rules = omega (arith, a.more-rules, a'.more-rules);
  few-rules = omega (arith, a.few-rules, a'.few-rules);
  more-cells = omega (arith, a.more-cells, a'.more-cells);
  few-cells = omega (arith, a.few-cells, a'.few-cells);
  behind = λ k h. a'.behind k h ∙ a.behind k (omega (arith, a'.more-rules));
  below = λ c h. a'.below c (omega (arith, a.more-cells)) ∙ a.below c h;
}

pub grown-within : {m n m' n' : ℕ} {b b' : FormBuilder} → b'.next_rule.0 ≤ b.next_rule.0 + m' → b'.next_cell ≤ b.next_cell + n' → Grown m n b b' → Grown m' n' b b'
grown-within h l a = record {
  lent = a.lent;
  long = a.long;
  more-rules = a.more-rules;
  few-rules = h;
  more-cells = a.more-cells;
  few-cells = l;
  behind = a.behind;
  below = a.below;
}

pub grown_less : {m n m' n' : ℕ} {b b' : FormBuilder} → m ≤ m' → n ≤ n' → Grown m n b b' → Grown m' n' b b'
grown_less h l a = grown-within (omega (arith, a.few-rules)) (omega (arith, a.few-cells)) a

-- nothing added
pub grown-none : {m n : ℕ} {b : FormBuilder} → Grown m n b b
grown-none = record {
  lent = refl;
  long = refl;
  more-rules = omega arith;
  few-rules = omega arith;
  more-cells = omega arith;
  few-cells = omega arith;
  behind = λ k h. refl;
  below = λ c h. refl;
}

-- what cells represent after a step
module _ {m n : ℕ} {b b' : FormBuilder} (g : Grown m n b b') where
  pub grown-stands : (c : ℕ) (s : Skeleton) → c < b.next_cell → Stands b.cells c s → Stands b'.cells c s
  grown-stands c s h p = stands-kept b'.cells b.cells b.next_cell g.below c s h p

  pub grown_rows : (xs : List ℕ) (ss : Skeletons) → Row b.cells b.next_cell xs ss → Row b'.cells b'.next_cell xs ss
  grown_rows xs ss p = row_raised b'.cells b.next_cell b'.next_cell g.more-cells xs ss (row_kept b'.cells b.cells b.next_cell g.below b.next_cell xs ss (omega arith) p)

-- room that is left after a step
pub room-left : {m n m' n' : ℕ} {b b' : FormBuilder} → Room (m + m') (n + n') b → Grown m n b b' → Room m' n' b'
room-left r g = record {
  fits = omega (arith, r.fits, g.long, g.few-rules);
  numbers = omega (arith, r.numbers, g.few-rules);
  left = omega (arith, r.left, g.few-cells);
}

pub room_less : {m n m' n' : ℕ} {b : FormBuilder} → m' ≤ m → n' ≤ n → Room m n b → Room m' n' b
room_less h l r = record { fits = omega (arith, r.fits); numbers = omega (arith, r.numbers); left = omega (arith, r.left) }
