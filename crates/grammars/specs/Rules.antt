-- What reading a rules body answers.
use Rattle.std.specs.Prelude.{not, cond, List, [], ◌∷◌, ℕ, ◌-◌, eqb, length, set, Option, Some, None}
use Rattle.terms.specs.Grammar.{Rule, rule_at, rule_rank, node_count}
use Rattle.terms.specs.Form.{side_bound, form_bound}
use Rattle.terms.specs.Test.{tabulate}
use Rattle.terms.specs.Refusal.{◌when◌, first}
use Rattle.terms.specs.Answer.{Answer, answer}
use Rattle.terms.specs.Sheet.{RulesBody, rules_body}
use Rattle.terms.specs.Check.{rule_refusal, rules_refusal}
use Rattle.nodes.specs.Nodes.{ruled_by}
use Rattle.grammars.specs.declared.rules.Counts.{Counts}
use Rattle.grammars.specs.declared.rules.Rules.{Rules}

-- what the check of rule i sees of the rules: rule i, and the ranks of the others (01 Refusals, 8 to 11)
abbrev pub seen_from : List ℕ → ℕ → ℕ → List ℕ → List Rule
seen_from ranks i rank nodes = set (ruled_by ranks) i (record { rank = rank; nodes = nodes })

-- the first refusal of a rule, from rule 0 on, and that of a start with parameters (01 Refusals, 8 to 13)
abbrev pub each_refusal : List ℕ → List Rule → ℕ
each_refusal alphabet rules = first (
    first (tabulate (length rules) (rule_refusal alphabet rules))
    ∷ 13 when (not (eqb (rule_rank rules (length rules - 1)) 0))
    ∷ [])

-- the counts of rules and nodes of a body, none where it does not end where a rule ends (01 Refusals, 5)
abbrev pub body_counts : RulesBody → Option Counts
body_counts b = cond b.ends (Some (record { rules = length b.rules; nodes = node_count b.rules })) None

-- the answer to rule i: its refusal, or how many rules of a form its nodes may take (01 Refusals, 8 to 11, 02 R-6)
abbrev pub rule_reading : List ℕ → List Rule → ℕ → Answer ℕ
rule_reading alphabet rules i = answer (rule_refusal alphabet rules i) (side_bound rules (rule_at rules i).nodes)

-- the answer of a reading: the refusal, or the count of the rules, and how many a form of them may take, where nothing is refused (01 Refusals, 02 R-6)
abbrev pub reading : ℕ → List Rule → Answer Rules
reading n rules = answer n (record { count = length rules; asked = form_bound rules })

-- the answer to a rules body over an alphabet (01 Refusals, 5 to 13)
abbrev pub rules_reading : List ℕ → List ℕ → Answer Rules
rules_reading alphabet body = reading (rules_refusal alphabet body) (rules_body body).rules
