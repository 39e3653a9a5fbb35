-- Demand 3 on the definitions, of the form that is made.
use mathlib.Core.Path.{◌≡◌}
use mathlib.Core.List.{List}
use Prim.Native.Nat.{ℕ}
use Rattle.terms.specs.Sheet.{body, alphabet_of, rules_of}
use Rattle.terms.specs.Check.{sheet_refusal}
use Rattle.terms.specs.Demand.{Demand3}
use Rattle.terms.proofs.Demand.{form_meets}
use Rattle.terms.proofs.Sheet.Grammar.{rules_passed}
use Rattle.terms.proofs.Sheet.Passed.{sheet_passed}
use Rattle.making.specs.Making.{form_of}
use Rattle.making.proofs.Formed.{form_of_lem}
use Rattle.making.proofs.Cleaned.{made_holds}

-- every sheet that refusals 1 to 16 let through has a form of which demand 3 holds: the one that is made
pub demand_three : (sheet : List ℕ) → sheet_refusal sheet ≡ 0 → Demand3 sheet (form_of sheet)
unfolding rules_of
demand_three sheet passes =
    let p = sheet_passed sheet passes in
    let rules = rules_passed (alphabet_of sheet) (body sheet 1) p.rules in
    form_meets sheet passes (form_of sheet) (form_of_lem sheet (made_holds (alphabet_of sheet) (rules_of sheet) p.alphabet rules.proper rules.few-nodes))
