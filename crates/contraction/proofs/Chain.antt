-- A rule of rank 1 over what a cell represents: the code's cases are the model's, by what the cell is.
use mathlib.Core.Path.{◌≡◌, ap, ◌∙◌}
use mathlib.Core.List.{List, [], ◌∷◌}
use mathlib.Core.Logic.{◌⊎◌, inl, inr}
use Prim.Native.Nat.{ℕ, ◌<◌}
use native.Mathlib.Omega.{arith}
use lib.ListN.{length}
use Rattle.terms.specs.Form.{Rule, filled, composed}
use Rattle.terms.specs.declared.Rule.{Rule as Number}
use Rattle.terms.specs.declared.Terminal.{Terminal as Symbol}
use Rattle.skeletons.specs.Skeleton.{Skeleton, param, shut, under, branch}
use Rattle.skeletons.specs.Make.{contract_chain}
use Rattle.form_bytes.specs.declared.rule.FormRule.{FormRule}
use Rattle.form_writing.specs.Bytes.{fields_with, Holds}
use Rattle.cells.specs.Cells.{cell_at, Stands}
use Rattle.cells.specs.Builder.{RuleAdded, CellAdded, Stood}
use Rattle.cells.specs.declared.builder.FormBuilder.{FormBuilder}
use Rattle.cells.specs.declared.cells.Cell.{Cell}
use Rattle.cells.specs.declared.cells.Cell.TheVariants.{Parameter, Closed, Over, Terminal}
use Rattle.contraction.specs.Chain.{ChainContracted}
use Rattle.cells.proofs.Adding.{added_held, added_counted, new-cell, under-stands, made-lower, cell-grown, rule-grown, grown-then, grown_less}

module _ {b b₁ b' : FormBuilder} {rule : FormRule} {number : Number} {made : ℕ} (c cell : ℕ) where
  -- over a rule of rank 0
  pub contract_chain_shut : (a : Number) → cell_at b.cells cell ≡ Closed a → rule ≡ fields_with 2 0xFF 0 (c ∷ a.0 ∷ []) → RuleAdded rule b number.0 b₁
      → CellAdded (Closed number) b₁ made b' → ChainContracted b c cell b' made
  unfolding contract_chain
  contract_chain_shut a is fields w w' = record { grown = grown-then (rule-grown w) (cell-grown w'); lower = made-lower w'; stood = stood }
    where
      stood : (rs : List Rule) (s : Skeleton) → Holds b.table.now rs → b.next_rule.0 ≡ length rs → Stands b.cells cell s → Stood (contract_chain rs c s) b' made
      stood rs (param i) held e p = cc
      stood rs (shut x) held e p =
          let n : a ≡ record { 0 = x } = cc in
          let same : rule ≡ fields_with 2 0xFF 0 (c ∷ x ∷ []) = fields ∙ ap (λ (m : Number). fields_with 2 0xFF 0 (c ∷ m.0 ∷ [])) n in
          record {
            held = rw w'.table (added_held w rs (filled c x) held e same);
            counted = ap (λ (m : Number). m.0) w'.rule ∙ added_counted w rs (filled c x) held e;
            lower = made-lower w';
            stands = new-cell w' ∙ ap (λ (m : ℕ). Closed (record { 0 = m })) (w.numbered ∙ e);
          }
      stood rs (under d s) held e (child, at, lower, p) = cc
      stood rs (branch f ss) held e (xs, at, four, p) = cc

  -- over a rule of rank 1
  pub contract_chain_under : (a : Number) (child : ℕ) → cell < b.next_cell → cell_at b.cells cell ≡ Over a child → rule ≡ fields_with 3 0xFF 0 (c ∷ a.0 ∷ []) → RuleAdded rule b number.0 b₁
      → CellAdded (Over number child) b₁ made b' → ChainContracted b c cell b' made
  unfolding contract_chain
  contract_chain_under a child there is fields w w' = record { grown = grown-then (rule-grown w) (cell-grown w'); lower = made-lower w'; stood = stood }
    where
      stood : (rs : List Rule) (s : Skeleton) → Holds b.table.now rs → b.next_rule.0 ≡ length rs → Stands b.cells cell s → Stood (contract_chain rs c s) b' made
      stood rs (param i) held e p = cc
      stood rs (shut x) held e p = cc
      stood rs (under d s) held e (child', at, lower, p) =
          let n : a ≡ record { 0 = d } = cc in
          let z : child' ≡ child = cc in
          let same : rule ≡ fields_with 3 0xFF 0 (c ∷ d ∷ []) = fields ∙ ap (λ (m : Number). fields_with 3 0xFF 0 (c ∷ m.0 ∷ [])) n in
          let kept : Stands b₁.cells child s = rw (w.cells, ← z) p in
          let new : Stands b'.cells made (under number.0 s) = under-stands number.0 child s (omega (arith, w.cell)) kept w' in
          record {
            held = rw w'.table (added_held w rs (composed c d) held e same);
            counted = ap (λ (m : Number). m.0) w'.rule ∙ added_counted w rs (composed c d) held e;
            lower = made-lower w';
            stands = rw (w.numbered ∙ e) at new;
          }
      stood rs (branch f ss) held e (xs, at, four, p) = cc

-- a parameter or a terminal is no rule
abbrev Plain : Cell → Type 0
Plain x = ((j : ℕ) × (x ≡ Parameter j)) ⊎ ((f : Symbol) × (n : ℕ) × (xs : List ℕ) × (x ≡ Terminal f n xs))

no-closed : {x y : Cell} {a : Number} → x ≡ y → y ≡ Closed a → Plain x → ⊥
no-closed e is (inl (j, p)) = cc
no-closed e is (inr (f, n, xs, p)) = cc

no-over : {x y : Cell} {a : Number} {child : ℕ} → x ≡ y → y ≡ Over a child → Plain x → ⊥
no-over e is (inl (j, p)) = cc
no-over e is (inr (f, n, xs, p)) = cc

-- over anything else
module _ {b b' : FormBuilder} {made : ℕ} (c : Number) (cell : ℕ) (there : cell < b.next_cell) {x : Cell} (read : x ≡ cell_at b.cells cell) (plain : Plain x) where
  pub contract_chain_plain : CellAdded (Over c cell) b made b' → ChainContracted b c.0 cell b' made
  unfolding contract_chain
  contract_chain_plain w = record { grown = grown_less (omega arith) (omega arith) (cell-grown w); lower = made-lower w; stood = stood }
    where
      over : (rs : List Rule) (s : Skeleton) → Holds b.table.now rs → b.next_rule.0 ≡ length rs → Stands b.cells cell s → Stood (record { rules = rs; made = under c.0 s }) b' made
      over rs s held e p = record { held = rw w.table held; counted = ap (λ (m : Number). m.0) w.rule ∙ e; lower = made-lower w; stands = under-stands c.0 cell s there p w }

      stood : (rs : List Rule) (s : Skeleton) → Holds b.table.now rs → b.next_rule.0 ≡ length rs → Stands b.cells cell s → Stood (contract_chain rs c.0 s) b' made
      stood rs (param i) held e p = over rs (param i) held e p
      stood rs (shut a) held e p = absurd (no-closed read p plain)
      stood rs (under d s) held e (child, at, lower, p) = absurd (no-over read at plain)
      stood rs (branch f ss) held e p = over rs (branch f ss) held e p
