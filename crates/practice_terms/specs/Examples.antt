-- Practice sheets with what must come out (document 02, R-2), as bytes.
use Rattle.std.specs.Prelude.{List, [], ◌∷◌, ℕ}
use Rattle.terms.specs.Tree.{preorder}
use Rattle.terms.specs.Check.{sheet_refusal}
use Rattle.terms.specs.Sheet.{sheet_tree}
use Rattle.terms.specs.Examples.{hex}
use Rattle.terms.specs.CallExamples.{CallRow, is}
use Rattle.practice_terms.specs.Draw.{draws}
use Rattle.practice_terms.specs.Practice.{practice_sheet, practice_refusal}
use Rattle.practice_terms.specs.Described.{practice_tree}

-- the automaton `01 00`: one state, which is not final, and no transition (02 R-2)
abbrev pub bare : List ℕ
bare = hex 2 0x0100

-- draws, and what they must be (02 R-2)
abbrev pub drawn : ℕ → List ℕ → CallRow
drawn x ds = record { gives = draws 3 x; says = ds }

-- the practice sheet of x and m, and its bytes (02 R-2)
abbrev pub written : ℕ → ℕ → List ℕ → CallRow
written x m sheet = record { gives = practice_sheet x m bare; says = sheet }

-- the tree that the draws describe, in preorder (02 R-2)
abbrev pub described : ℕ → ℕ → List ℕ → CallRow
described x m tree = record { gives = preorder (practice_tree x m); says = tree }

-- the tree of the sheet itself, in preorder (02 R-2)
abbrev pub derived : ℕ → ℕ → List ℕ → CallRow
derived x m tree = record { gives = preorder (sheet_tree (practice_sheet x m bare)); says = tree }

-- draws and sheets (02 R-2)
unfoldable pub practice_rows : List CallRow
practice_rows =
    drawn 0 (15470 ∷ 18256 ∷ 53708 ∷ [])
    ∷ drawn 2 (15521 ∷ 30144 ∷ 12383 ∷ [])
    ∷ drawn 4294967295 (15445 ∷ 12311 ∷ 8835 ∷ [])
    -- an even draw, and an odd one
    ∷ written 0 1 (hex 30 0x0C00_0300_0F00_0D00_1C00_0200_000102_01020180_0103404080_00024100_0100)
    ∷ described 0 1 (hex 3 0x010100)
    ∷ derived 0 1 (hex 3 0x010100)
    ∷ written 2 1 (hex 31 0x0C00_0300_0F00_0E00_1D00_0200_000102_01020180_010402408000_00024100_0100)
    ∷ described 2 1 (hex 4 0x02010000)
    ∷ derived 2 1 (hex 4 0x02010000)
    -- two calls of different rules, both ways round
    ∷ written 19 2 (hex 36 0x0C00_0300_0F00_1300_2200_0200_000102_01020180_010402408000_0103414080_00024200_0100)
    ∷ described 19 2 (hex 5 0x0201010000)
    ∷ derived 19 2 (hex 5 0x0201010000)
    ∷ written 25 2 (hex 36 0x0C00_0300_0F00_1300_2200_0200_000102_01020180_010402408000_0103404180_00024200_0100)
    ∷ described 25 2 (hex 5 0x0102010000)
    ∷ derived 25 2 (hex 5 0x0102010000)
    -- three rules
    ∷ written 0 3 (hex 41 0x0C00_0300_0F00_1800_2700_0200_000102_01020180_0103404080_010402408000_0103424280_00024300_0100)
    ∷ described 0 3 (hex 7 0x02010201000000)
    ∷ derived 0 3 (hex 7 0x02010201000000)
    ∷ is (sheet_refusal (practice_sheet 0 3 bare)) 0
    ∷ []

-- 27, 14 to 16, 24 (02 R-2)
unfoldable pub practice_refusals : List CallRow
practice_refusals =
    is (practice_refusal 0 1 bare 30) 0
    ∷ is (practice_refusal 0 1 bare 29) 24
    ∷ is (practice_refusal 2 1 bare 30) 24
    ∷ is (practice_refusal 0 20 bare 135) 0
    ∷ is (practice_refusal 0 20 bare 134) 24
    ∷ is (practice_refusal 0 1 (hex 1 0x01) 0) 14
    ∷ is (practice_refusal 0 1 (hex 2 0x0900) 0) 15
    ∷ is (practice_refusal 0 1 (hex 8 0x0100_0300FFFFFFFF) 0) 16
    ∷ is (practice_refusal 0 20 [] 0) 14
    ∷ is (practice_refusal 0 0 [] 0) 27
    ∷ is (practice_refusal 0 0 bare 64) 27
    ∷ is (practice_refusal 0 21 [] 0) 27
    ∷ is (practice_refusal 0 21 bare 200) 27
    ∷ is (practice_refusal 0 257 bare 64) 27
    ∷ []
