-- `making::write_cleaned` meets its contract: where nothing is dropped the rules are the cleaned ones, else these are written and read again.
use mathlib.Core.Path.{sym, ◌∙◌}
use Rattle.making.proofs.Cleaned.{strict-written, clean-grammar, clean-written}
use Rattle.making.proofs.write_cleaned.Goals as goal

pub returns-then-is_strict : goal.returns-then-is_strict
returns-then-is_strict c =
    strict-written c.requires.1 (sym c.is_strict.ensures ∙ c.if-is_strict.true) c.write_form.ensures

pub write_form-requires-2 : goal.write_form-requires-2
write_form-requires-2 c =
    (c.requires.0, clean-grammar c.requires.1 c.clean-end.ensures.written)

pub returns : goal.returns
returns c =
    clean-written c.requires.1 c.clean-end.ensures.written c.write_form-2.ensures
