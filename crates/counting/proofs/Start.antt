-- The start of a form that was opened derives the form's tree, and the counts of its table are those of the form.
use mathlib.Core.Path.{◌≡◌, ap}
use mathlib.Core.List.{List}
use Prim.Native.Nat.{ℕ}
use native.Mathlib.Omega.{arith}
use Rattle.terms.specs.Form.{closed, value_at}
use Rattle.terms.specs.FormBytes.{start_of, rule_count, table_count, table_rules, form_tree}
use Rattle.terms.specs.Count.{own_nodes, size_of}
use Rattle.terms.specs.Calls.{rules_counts, counts_of}
use Rattle.terms.proofs.Form.Value.{derives-tree}
use Rattle.forms.specs.declared.table.CheckedForm.{CheckedForm}
use Rattle.forms.specs.Private.Opened.{IsOpened}
use Rattle.forms.proofs.Rules.{passed, rules_in_table}

module _ {alphabet form : List ℕ} {opened : CheckedForm} (o : IsOpened alphabet form opened) where
  pub opened-rules : table_count opened.table.bytes.now ≡ rule_count form
  opened-rules = rw o.bytes (rules_in_table alphabet form o.ranked o.valid)

  pub opened-value : value_at (table_rules opened.table.alphabet.now opened.table.bytes.now) opened.start.0 ≡ closed (form_tree alphabet form)
  unfolding form_tree
  opened-value =
      let p = passed alphabet form o.ranked o.valid in
      rw (o.ranks, o.bytes, o.start) (derives-tree p.valid (start_of form) (omega (arith, p.start.below, p.count)) p.start.rank)

  -- so the nodes that it derives are those of the tree
  pub opened-size : own_nodes (value_at (table_rules opened.table.alphabet.now opened.table.bytes.now) opened.start.0) ≡ size_of (form_tree alphabet form)
  opened-size = ap own_nodes opened-value

  pub opened-counts : rules_counts (table_rules opened.table.alphabet.now opened.table.bytes.now) ≡ counts_of alphabet form
  opened-counts = rw (o.ranks, o.bytes)
