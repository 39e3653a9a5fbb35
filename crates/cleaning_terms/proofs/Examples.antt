-- The rows of cleaned rules come out as they must.
use mathlib.Core.Path.{refl}
use Rattle.terms.specs.Test.{tabulate}
use Rattle.terms.specs.Grammar.{name, name_of, rank_in}
use Rattle.terms.specs.Sheet.{read_rules, rules_body, written_rules}
use Rattle.terms.specs.Examples.{hex, W}
use Rattle.terms.proofs.Examples.{CallsHold}
use Rattle.cleaning_terms.specs.Cleaning.{present, sift, sifted_rules, trues, renumbered, cleaned}
use Rattle.cleaning_terms.specs.Examples.{cleaning_rows}

pub cleaning_holds : CallsHold cleaning_rows
unfolding tabulate name name_of rank_in read_rules rules_body written_rules hex W present sift sifted_rules trues renumbered cleaned cleaning_rows
cleaning_holds = refl
