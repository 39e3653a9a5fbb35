-- Where the rule at a place of a rules body stands (document 01, "Sheet").
use Rattle.std.specs.Prelude.{List, ℕ, ◌+◌, ◌-◌, get_or, take, drop}
use Rattle.terms.specs.Grammar.{Rule}
use Rattle.grammars.specs.declared.cursor.Span.{Span}

-- the rule whose rank stands at a place: two bytes on its nodes start, as many as the second byte says; where the body cuts them off they end behind it (01 Sheet)
abbrev pub span_at : List ℕ → ℕ → Span
span_at body at = record { rank = get_or body at 0; start = at + 2; end = at + 2 + get_or body (at + 1) 0 }

-- the bytes of a body between two places (01 Sheet)
abbrev pub between : List ℕ → ℕ → ℕ → List ℕ
between body start end = take (end - start) (drop start body)

-- the rule that stands in a span of a body (01 Sheet)
abbrev pub rule_in : List ℕ → Span → Rule
rule_in body span = record { rank = span.rank; nodes = between body span.start span.end }
