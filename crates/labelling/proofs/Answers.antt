-- What label answers, and what it leaves.
use mathlib.Core.Path.{◌≡◌, ap}
use mathlib.Core.List.{List}
use Prim.Native.Nat.{ℕ, ◌≤◌, ◌<◌}
use lib.ListN.{get_or}
use borrow.Author.Tests.{le-leb, lt-leb}
use Rattle.terms.specs.Form.{value_at}
use Rattle.terms.specs.FormBytes.{table_rules}
use Rattle.terms.specs.Count.{own_nodes, capped}
use Rattle.terms.specs.Calls.{size_refusal, label_refusal, label_at}
use Rattle.terms.proofs.InTurn.{went_on}
use Rattle.terms.proofs.Refusal.{or_none}
use Rattle.forms.specs.declared.table.CheckedForm.{CheckedForm}
use Rattle.forms.specs.Private.Opened.{IsOpened}
use Rattle.counting.specs.Private.Symbols.{own_symbols}
use Rattle.counting.proofs.Start.{opened-size, opened-value}
use Rattle.places.specs.Position.{symbol_at, position_refusal}

-- a position of a rule, in a table
module _ (alphabet table : List ℕ) (i p : ℕ) where
  abbrev nodes : ℕ
  nodes = capped (own_nodes (value_at (table_rules alphabet table) i))

  pub position_past : nodes ≤ p → position_refusal alphabet table i p ≡ 21
  position_past l = rw (le-leb nodes p l)

  pub position_there : p < nodes → position_refusal alphabet table i p ≡ 0
  position_there l = rw (lt-leb nodes p l)

-- a position of a form's tree
module _ {alphabet form : List ℕ} {opened : CheckedForm} (o : IsOpened alphabet form opened) (position : ℕ) where
  pub start-refuses : (n : ℕ) → 0 ≡ size_refusal alphabet form n
      → label_refusal alphabet form position n ≡ position_refusal opened.table.alphabet.now opened.table.bytes.now opened.start.0 position
  unfolding label_refusal
  start-refuses n e = rw (went_on (size_refusal alphabet form n) _ e, or_none, opened-size o)

  pub start-label : symbol_at opened.table.alphabet.now opened.table.bytes.now opened.start.0 position ≡ label_at alphabet form position
  unfolding label_at
  start-label = ap (λ v. get_or (own_symbols v) position 0) (opened-value o)
