-- A form that was opened over an alphabet.
use Rattle.std.specs.Prelude.{◌≡◌, List, ℕ}
use Rattle.terms.specs.Check.{alphabet_refusal}
use Rattle.terms.specs.FormBytes.{start_of, table_of, form_refusal}
use Rattle.forms.specs.declared.table.CheckedForm.{CheckedForm}

-- neither the alphabet nor the form is refused, and these are the form's parts: its table over the alphabet, and its start (01 One-hole form)
pub record IsOpened (alphabet form : List ℕ) (opened : CheckedForm) : Type 0 where
  pub ranked : alphabet_refusal alphabet ≡ 0
  pub valid : form_refusal alphabet form ≡ 0
  pub ranks : opened.table.alphabet.now ≡ alphabet
  pub bytes : opened.table.bytes.now ≡ table_of form
  pub start : opened.start.0 ≡ start_of form
