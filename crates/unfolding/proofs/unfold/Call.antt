-- The call of unfolding: its tests are those of the definition, in its order, and what it leaves is the form's tree.
use mathlib.Core.Path.{◌≡◌, refl, sym, ◌∙◌, ap}
use mathlib.Core.List.{List, ◌++◌}
use Prim.Native.Nat.{ℕ, ◌≤◌, ◌<◌}
use native.Mathlib.Nat.{zero-add}
use native.Mathlib.Omega.{arith}
use borrow.Author.Tests.{lt-ltb, le-ltb}
use lib.ListN.{length, drop}
use lib.Seq.{sets, sets-eq}
use Rattle.terms.specs.Tree.{preorder}
use Rattle.terms.specs.Form.{Value}
use Rattle.terms.specs.FormBytes.{table_count, form_tree}
use Rattle.terms.specs.Count.{own_nodes}
use Rattle.terms.specs.Calls.{lent_after, size_refusal, unfolding_refusal}
use Rattle.terms.proofs.InTurn.{went_on, leaves_written}
use Rattle.terms.proofs.Refusal.{or_none}
use Rattle.forms.specs.declared.table.CheckedForm.{CheckedForm}
use Rattle.forms.specs.Private.Opened.{IsOpened}
use Rattle.counting.specs.Private.Symbols.{symbols_before, symbols_after, own_symbols}
use Rattle.counting.proofs.Symbols.{own_parts, count_symbols, count_parts}
use Rattle.counting.proofs.Start.{opened-value, opened-size}
use Rattle.writing.specs.Writing.{value_in, rule_written, room_refusal, RuleRoom}
use Rattle.writing.proofs.write.Splice.{no_gap}

-- the start of a table, written into a tree of some length
module _ (alphabet table : List ℕ) (start : ℕ) where
  abbrev value : Value
  value = value_in alphabet table start

  pub start-room : start < table_count table → (room : ℕ) → own_nodes value ≤ room → RuleRoom alphabet table start 0 0 room
  start-room below room h = record { below = below; shut = λ e. refl; fits = omega (arith, count_parts value) }

  pub longer : (room : ℕ) → room < own_nodes value → room_refusal alphabet table start room ≡ 20
  longer room l = rw (lt-ltb _ _ l)

  pub fits : (room : ℕ) → own_nodes value ≤ room → room_refusal alphabet table start room ≡ 0
  fits room l = rw (le-ltb _ _ l)

  start-written : (tree : List ℕ) → own_nodes value ≤ length tree → rule_written alphabet table start tree 0 0 ≡ own_symbols value ++ drop (length (own_symbols value)) tree
  start-written tree h =
      no_gap tree 0 (symbols_before value) (symbols_after value)
      ∙ ap (sets tree 0) (sym (own_parts value))
      ∙ sets-eq (own_symbols value) tree 0 (omega (arith, count_symbols value))
      ∙ rw zero-add

  pub tree-left : (refusal : ℕ) (tree written : List ℕ) → 0 ≡ refusal → own_nodes value ≤ length tree → written ≡ rule_written alphabet table start tree 0 0
      → written ≡ lent_after refusal (own_symbols value) tree
  tree-left refusal tree written none h e = rw (leaves_written refusal (own_symbols value) tree none) (e ∙ start-written tree h)

-- a form and its tree
module _ {alphabet form : List ℕ} {opened : CheckedForm} (o : IsOpened alphabet form opened) where
  pub opened-symbols : own_symbols (value_in opened.table.alphabet.now opened.table.bytes.now opened.start.0) ≡ preorder (form_tree alphabet form)
  opened-symbols = ap own_symbols (opened-value o)

  pub start-refuses : (n room : ℕ) → 0 ≡ size_refusal alphabet form n
      → unfolding_refusal alphabet form n room ≡ room_refusal opened.table.alphabet.now opened.table.bytes.now opened.start.0 room
  unfolding unfolding_refusal
  start-refuses n room e = rw (went_on (size_refusal alphabet form n) _ e, or_none, opened-size o)
