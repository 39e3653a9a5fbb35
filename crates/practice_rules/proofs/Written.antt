-- The rules body rule by rule: rule 0, the rules that are drawn, and the last rule.
use Rattle.std.proofs.Common.{◌≡◌, ℕ, suc, ◌+◌, ◌*◌, ◌≤◌, List, [], ◌∷◌, ◌++◌, map, length, refl, ap, ◌∙◌, arith, length-append}
use mathlib.Core.List.{map-append}
use Rattle.terms.specs.Grammar.{Rule}
use Rattle.terms.specs.Sheet.{written_rule, written_rules}
use Rattle.terms.proofs.Sheet.Rules.{rules-append}
use Rattle.practice_terms.specs.Draw.{choices}
use Rattle.practice_terms.specs.Practice.{drawn_rule, first_rule, last_rule, grammar_of, practice_rules}
use Rattle.practice_terms.proofs.Choices.{length-choices, length_most}
use Rattle.practice_terms.proofs.Rules.{length-bytes}
use Rattle.practice_rules.specs.Drawn.{choice_from, bytes_from}
use Rattle.practice_rules.proofs.Numbers.{choices_from, after_rules, choices-from, choices-more}

-- rule 0 and the first n rules that are drawn
abbrev chosen : ℕ → ℕ → List Rule
chosen n x = first_rule ∷ map drawn_rule (choices_from n 1 x)

-- their bytes
abbrev pub written : ℕ → ℕ → List ℕ
written n x = written_rules (chosen n x)

-- rule 0
pub written_zero : (x : ℕ) → written 0 x ≡ written_rule first_rule
unfolding written_rules choices_from
written_zero x = refl

-- rule n + 1, from the number after n rules
pub written-more : (n x : ℕ) → written (suc n) x ≡ written n x ++ bytes_from (suc n) (after_rules n x)
written-more n x =
    let c = choice_from (suc n) (after_rules n x) in
    ap (λ cs. written_rules (first_rule ∷ map drawn_rule cs)) (choices-more n 1 x (suc n) (omega arith))
    ∙ ap (λ rs. written_rules (first_rule ∷ rs)) (map-append drawn_rule (choices_from n 1 x) (c ∷ []))
    ∙ rules-append (chosen n x) (drawn_rule c)

-- the last rule
pub written_last : (x m : ℕ) → written_rules (practice_rules x m) ≡ written m x ++ written_rule (last_rule m)
unfolding grammar_of
written_last x m = rw (length-choices x m, choices-from x m) (rules-append (chosen m x) (last_rule m))

-- how much is written
pub written-most : (n x : ℕ) → length (written n x) ≤ 4 + 6 * n
written-most n x =
    let cs = choices x n in
    omega (arith, ap length (written_last x n), length-append (written n x) (written_rule (last_rule n)), length-bytes cs, length_most cs, length-choices x n)
