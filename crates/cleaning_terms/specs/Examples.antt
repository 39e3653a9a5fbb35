-- Rules bodies and what they are cleaned to (document 02, R-3), over the alphabet of W, as bytes.
use Rattle.std.specs.Prelude.{List, [], ◌∷◌, ℕ}
use Rattle.terms.specs.Form.{form_bound}
use Rattle.terms.specs.Sheet.{rules_body, written_rules}
use Rattle.terms.specs.Examples.{hex, w_alphabet, w_rules}
use Rattle.terms.specs.CallExamples.{CallRow}
use Rattle.cleaning_terms.specs.Cleaning.{cleaned}

-- a rules body, and the body of the cleaned rules (02 R-3)
abbrev pub cleans : List ℕ → List ℕ → CallRow
cleans body out = record { gives = written_rules (cleaned w_alphabet (rules_body body).rules); says = out }

-- a rules body, and R-6's sum over the rules as written and over the cleaned ones (02 R-6)
abbrev pub sums : List ℕ → ℕ → ℕ → CallRow
sums body written clean =
    let rules = (rules_body body).rules in
    record { gives = form_bound rules ∷ form_bound (cleaned w_alphabet rules) ∷ []; says = written ∷ clean ∷ [] }

-- the rules of documents 01 and 02 (02 R-3)
unfoldable pub cleaning_rows : List CallRow
cleaning_rows =
    -- nothing is dropped
    cleans w_rules w_rules
    -- a lone parameter of rank 1, and of rank 2
    ∷ cleans (hex 7 0x010180_00024000) (hex 6 0x010180_000100)
    ∷ cleans (hex 9 0x020180_000440000200) (hex 6 0x010180_000100)
    -- y2 of rule 1 is handed to rule 0, which drops it
    ∷ cleans (hex 14 0x020180_0203408081_000441000200) (hex 9 0x010180_010180_000100)
    -- f(y3, y1) becomes a rule of rank 2
    ∷ cleans (hex 12 0x0303018280_00054000000200) (hex 11 0x0203018180_000440000200)
    -- a rule that has none of its parameters
    ∷ cleans (hex 9 0x010100_000440010000) (hex 6 0x000100_000140)
    -- lone parameters through two rules, one alone in an argument of the other
    ∷ cleans (hex 15 0x020181_0103400080_00054140000200) (hex 10 0x010180_010180_00020200)
    -- a dropped argument in a dropped argument
    ∷ cleans (hex 14 0x020180_0009400200400100000200) (hex 7 0x010180_00020200)
    -- the sum, where nothing is dropped, where all but one argument of a call of rank 4 are, and where one of three is
    ∷ sums w_rules 17 17
    ∷ sums (hex 10 0x040180_00054000000000) 21 2
    ∷ sums (hex 12 0x0303018280_00054000000200) 19 13
    ∷ []
