-- A terminal over cells is a step of the model, by how many of the cells are open.
use mathlib.Core.Path.{◌≡◌, sym, subst, ap, ◌∙◌}
use mathlib.Core.List.{List, [], ◌∷◌, ◌++◌}
use Prim.Native.Nat.{ℕ, suc, ◌+◌, ◌≤◌}
use native.Mathlib.Omega.{arith}
use lib.ListN.{length, get_or}
use Rattle.std.proofs.lemmas.List.{take_all}
use Rattle.terms.specs.Form.{Rule, whole, pierced}
use Rattle.terms.specs.declared.Rule.{Rule as Number}
use Rattle.terms.specs.declared.Terminal.{Terminal as Symbol}
use Rattle.skeletons.specs.Skeleton.{Skeletons, size}
use Rattle.skeletons.specs.Make.{Sort, closed, single, several, sort, contract_terminal_by, contract_terminal, contract_chain}
use Rattle.form_bytes.specs.declared.rule.FormRule.{FormRule}
use Rattle.form_writing.specs.Bytes.{fields_for, Holds}
use Rattle.std.specs.Prelude.{min}
use Rattle.cells.specs.Cells.{Row, children_from, terminal_over}
use Rattle.cells.specs.Builder.{RuleAdded, CellAdded, Stood}
use Rattle.cells.specs.declared.builder.FormBuilder.{FormBuilder}
use Rattle.cells.specs.declared.cells.Cell.TheVariants.{Closed, Terminal}
use Rattle.contraction.specs.Chain.{ChainContracted}
use Rattle.contraction.specs.Terminal.{Sorted, Opens, fields_over, ContractedWhere, TerminalContracted}
use Rattle.contraction.specs.declared.contract_terminal.Open.{Open}
use Rattle.contraction.specs.declared.contract_terminal.Open.TheVariants.{Nowhere, At, Several}
use Rattle.cells.proofs.Adding.{added_held, added_counted, new-cell, branch-stands, made-lower, cell-grown, rule-grown, grown-then, grown_less}
use Rattle.contraction.proofs.OpenChildren.{Described, described, closed_fields_lem, single_fields}

described_row : (b : FormBuilder) (xs : List ℕ) (ss : Skeletons) → Row b.cells b.next_cell xs ss → size ss ≡ length xs → Described b.cells b.next_cell xs (length xs) (sort ss)
described_row b xs ss row n = subst (λ (m : ℕ). Described b.cells b.next_cell xs m (sort ss)) n (described b.cells b.next_cell xs ss row)

module _ {b b₁ b' : FormBuilder} {rule : FormRule} {number : Number} {made : ℕ} (f : ℕ) (xs : List ℕ) where
  -- over closed cells
  pub closes : rule ≡ fields_over b.cells 0 f 0 xs → RuleAdded rule b number.0 b₁ → CellAdded (Closed number) b₁ made b' → ContractedWhere Nowhere b f xs b' made
  unfolding contract_terminal contract_terminal_by
  closes is w w' = record {
    grown = grown_less (omega arith) (omega arith) (grown-then (rule-grown w) (cell-grown w'));
    lower = made-lower w';
    stood = λ rs ss held e row n q. go rs ss held e (sort ss) q (described_row b xs ss row n);
  }
    where
      go : (rs : List Rule) (ss : Skeletons) → Holds b.table.now rs → b.next_rule.0 ≡ length rs → (t : Sort) → Sorted 0 Nowhere t → Described b.cells b.next_cell xs (length xs) t
          → Stood (contract_terminal_by rs f ss t) b' made
      go rs ss held e (closed slots) q d = record {
        held = rw w'.table (added_held w rs (whole f slots) held e (is ∙ closed_fields_lem b.cells xs f slots d));
        counted = ap (λ (m : Number). m.0) w'.rule ∙ added_counted w rs (whole f slots) held e;
        lower = made-lower w';
        stands = new-cell w' ∙ ap (λ (m : ℕ). Closed (record { 0 = m })) (w.numbered ∙ e);
      }
      go rs ss held e (single ls s us) q d = absurd q
      go rs ss held e several q d = absurd q

  -- over cells of which one is open
  pub pierces : (place : ℕ) → rule ≡ fields_over b.cells 1 f (place + 1) xs → RuleAdded rule b number.0 b₁ → ChainContracted b₁ number.0 (get_or xs place 0) b' made
      → ContractedWhere (At place) b f xs b' made
  unfolding contract_terminal contract_terminal_by
  pierces place is w w' = record {
    grown = grown-then (rule-grown w) w'.grown;
    lower = w'.lower;
    stood = λ rs ss held e row n q. go rs ss held e (sort ss) q (described_row b xs ss row n);
  }
    where
      go : (rs : List Rule) (ss : Skeletons) → Holds b.table.now rs → b.next_rule.0 ≡ length rs → (t : Sort) → Sorted 0 (At place) t → Described b.cells b.next_cell xs (length xs) t
          → Stood (contract_terminal_by rs f ss t) b' made
      go rs ss held e (closed slots) q d = absurd q
      go rs ss held e (single ls s us) q d =
          let x = pierced f ls us in
          let at : place ≡ length ls = omega arith in
          let hole : place + 1 ≡ suc (length ls) = omega arith in
          let fields : fields_over b.cells 1 f (place + 1) xs ≡ fields_for x = rw hole (single_fields b.cells xs f b.next_cell ls s us d) in
          subst (λ (c : ℕ). Stood (contract_chain (rs ++ (x ∷ [])) c s) b' made) (w.numbered ∙ e)
          (w'.stood (rs ++ (x ∷ [])) s (added_held w rs x held e (is ∙ fields)) (added_counted w rs x held e) (rw (w.cells, at) d.stands))
      go rs ss held e several q d = absurd q

-- a terminal over four cells or fewer
pub all_kept : (f : Symbol) (xs : List ℕ) → length xs ≤ 4 → terminal_over f xs ≡ Terminal f (length xs) (children_from xs)
all_kept f xs few =
    let n : min (length xs) 4 ≡ length xs = omega arith in
    rw (n, take_all 4 xs few)

-- over cells of which several are open
pub branches : {b b' : FormBuilder} {made : ℕ} (f : Symbol) (xs : List ℕ) → length xs ≤ 4 → CellAdded (Terminal f (length xs) (children_from xs)) b made b' → ContractedWhere Several b f.0 xs b' made
unfolding contract_terminal contract_terminal_by
branches {b} {b'} {made} f xs few w = record {
  grown = grown_less (omega arith) (omega arith) (cell-grown w);
  lower = made-lower w;
  stood = λ rs ss held e row n q. go rs ss held e (sort ss) q row n;
}
  where
    go : (rs : List Rule) (ss : Skeletons) → Holds b.table.now rs → b.next_rule.0 ≡ length rs → (t : Sort) → Sorted 0 Several t → Row b.cells b.next_cell xs ss → size ss ≡ length xs
        → Stood (contract_terminal_by rs f.0 ss t) b' made
    go rs ss held e (closed slots) q row n = absurd q
    go rs ss held e (single ls s us) q row n = absurd q
    go rs ss held e several q row n = record {
      held = rw w.table held;
      counted = ap (λ (m : Number). m.0) w.rule ∙ e;
      lower = made-lower w;
      stands = branch-stands f.0 xs ss (sym n) few row w;
    }

-- over any cells
pub grows : {b b' : FormBuilder} {made f : ℕ} {xs : List ℕ} {o : Open} (o' : Open) → o ≡ o' → Opens b.cells xs o → ContractedWhere o' b f xs b' made → TerminalContracted b f xs b' made
grows {b} o' e p g = record {
  grown = g.grown;
  lower = g.lower;
  stood = λ rs ss held n row count. g.stood rs ss held n row count (rw e at (p.sorted b.next_cell ss row count));
}
