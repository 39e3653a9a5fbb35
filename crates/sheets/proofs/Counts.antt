-- The counts of the rules of a sheet that is read.
use mathlib.Core.Path.{◌≡◌, refl}
use mathlib.Core.List.{List}
use Prim.Native.Nat.{ℕ, zero, suc, ◌≤◌}
use native.Mathlib.Omega.{arith}
use lib.ListN.{length}
use Rattle.terms.specs.Form.{form_bound}
use Rattle.terms.specs.Sheet.{body, rules_body, rules_of}
use Rattle.terms.specs.Check.{rules_refusal}
use Rattle.terms.specs.Calls.{rules_asked, most_asked}
use Rattle.terms.specs.Answer.{answered}
use Rattle.terms.proofs.Form.Bound.{bound-few}
use Rattle.terms.proofs.Sheet.Grammar.{rules_passed}
use Rattle.grammars.specs.Rules.{reading, rules_reading}
use Rattle.grammars.specs.declared.rules.Rules.{Rules}

-- the counts, and that no more rules of a form are asked for than the most
pub record Counted (s : List ℕ) (read : Rules) : Type 0 where
  pub count : read.count ≡ length (rules_of s)
  pub asked : read.asked ≡ rules_asked s
  pub few : read.asked ≤ most_asked

pub sheet_counted : {read : Rules} (s alphabet : List ℕ) {rules : List ℕ} → rules ≡ body s 1 → answered read ≡ rules_reading alphabet rules → Counted s read
unfolding rules_of
sheet_counted {read} s alphabet same e = go (rules_refusal alphabet (body s 1)) refl (rw same at e)
  where
    go : (n : ℕ) → rules_refusal alphabet (body s 1) ≡ n → answered read ≡ reading n (rules_body (body s 1)).rules → Counted s read
    go zero t e =
        let rules = rules_passed alphabet (body s 1) t in
        let asked : read.asked ≡ form_bound (rules_body (body s 1)).rules = cc in
        record { count = cc; asked = asked; few = omega (arith, bound-few alphabet (rules_body (body s 1)).rules rules.proper, rules.few-nodes) }
    go (suc n) t e = absurd (cc)
