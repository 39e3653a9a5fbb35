-- Sheets with what must come out (document 01, "Refusals with a sheet for each" and "Sheets for the desk", and document 02), as bytes.
use Rattle.std.specs.Prelude.{List, [], ◌∷◌, ◌++◌, ℕ, zero, suc, ◌^◌, ◌/◌, ◌%◌, take, drop, set, replicate}
use Rattle.terms.specs.Tree.{preorder}
use Rattle.terms.specs.Sheet.{Verdict, accepted, declined, sheet_tree, sheet_mask, sheet_verdict}
use Rattle.terms.specs.Check.{sheet_refusal}
use Rattle.terms.specs.Count.{Size, exact, size_of, size_answer}

-- the n bytes that a hexadecimal numeral writes, the first byte first (01 Sheets for the desk)
unfoldable pub hex : ℕ → ℕ → List ℕ
hex zero x = []
hex (suc n) x = x / 256 ^ n % 256 ∷ hex n x

-- bytes n times over (01 Sheets for the desk)
unfoldable pub times : ℕ → List ℕ → List ℕ
times zero xs = []
times (suc n) xs = xs ++ times n xs

-- what must come out for a sheet: a refusal, or verdict, mask, size and the tree in preorder (01 Sheets for the desk)
pub data Outcome : Type 0 where
  refused : ℕ → Outcome
  marked : Verdict → ℕ → Size → List ℕ → Outcome

-- what comes out for a sheet whose refusal is known (01 Sheets for the desk)
abbrev pub outcome_after : List ℕ → ℕ → Outcome
outcome_after s zero = marked (sheet_verdict s) (sheet_mask s) (size_answer (size_of (sheet_tree s))) (preorder (sheet_tree s))
outcome_after s (suc n) = refused (suc n)

-- what comes out for a sheet (01 Sheets for the desk)
unfoldable pub outcome : List ℕ → Outcome
outcome s = outcome_after s (sheet_refusal s)

-- a sheet and what must come out (01 Sheets for the desk)
pub record SheetRow : Type 0 where
  pub sheet : List ℕ
  pub out : Outcome

-- a row of a sheet that is refused (01 Refusals)
abbrev pub refuses : ℕ → List ℕ → SheetRow
refuses n s = record { sheet = s; out = refused n }

-- a row of a sheet that is marked (01 Sheets for the desk)
abbrev pub marks : List ℕ → Verdict → ℕ → ℕ → List ℕ → SheetRow
marks s v m n t = record { sheet = s; out = marked v m (exact n) t }

-- W, 58 bytes (01 Refusals)
unfoldable pub W : List ℕ
W = hex 58 0x0C00_0300_0F00_1100_2000_1A00_000201_0103020280_020401408180_000441004000_0201_0000FFFFFFFF_020100FFFFFF_020001FFFFFF_01000000FFFF

-- "b22=03" is W with byte 22 set so (01 Refusals)
abbrev pub w_with : ℕ → ℕ → List ℕ
w_with i b = set W i b

-- the alphabet of W (01 Refusals)
abbrev pub w_alphabet : List ℕ
w_alphabet = hex 3 0x000201

-- the rules of W (01 Refusals)
abbrev pub w_rules : List ℕ
w_rules = take 17 (drop 15 W)

-- the automaton of W (01 Refusals)
abbrev pub w_automaton : List ℕ
w_automaton = drop 32 W

-- K7: rule 0 is h(y1), each of ten more is the last called twice, start on a (01 Sheets for the desk)
unfoldable pub K7 : List ℕ
K7 = hex 12 0x0C00_0300_0F00_3A00_4900_1A00 ++ (w_alphabet ++ (hex 58 0x01020280_0103404080_0103414180_0103424280_0103434380_0103444480_0103454580_0103464680_0103474780_0103484880_0103494980_00024A00 ++ w_automaton))

-- K8: rule f(y2, y1) called on a, h(a) (01 Sheets for the desk)
unfoldable pub K8 : List ℕ
K8 = hex 12 0x0C00_0300_0F00_0B00_1A00_1A00 ++ (w_alphabet ++ (hex 11 0x0203018180_000440000200 ++ w_automaton))

-- the sheets with a star; K9 is among the calls (01 Sheets for the desk)
unfoldable pub desk : List SheetRow
desk =
    -- K1
    marks W accepted 1 7 (hex 7 0x01020202020000)
    -- K2: state 1 is final
    ∷ marks (w_with 33 0x02) declined 1 7 (hex 7 0x01020202020000)
    -- K3
    ∷ refuses 1 []
    -- K4: only rule 00 01 00
    ∷ marks (hex 12 0x0C00_0300_0F00_0300_1200_1A00 ++ (w_alphabet ++ (hex 3 0x000100 ++ w_automaton))) accepted 1 1 (hex 1 0x00)
    -- K5: W without transitions
    ∷ marks (hex 12 0x0C00_0300_0F00_1100_2000_0200 ++ (w_alphabet ++ (w_rules ++ hex 2 0x0201))) declined 0 7 (hex 7 0x01020202020000)
    -- K6: f(a, a); a to 0, a to 1, f(0, 1) to 0
    ∷ marks (hex 40 0x0C00_0300_0F00_0500_1400_1400_000201_0003010000_0201_0000FFFFFFFF_0001FFFFFFFF_01000001FFFF) accepted 1 3 (hex 3 0x010000)
    -- K7
    ∷ marks K7 accepted 1 1025 (replicate 1024 0x02 ++ (0x00 ∷ []))
    -- K8
    ∷ marks K8 declined 0 4 (hex 4 0x01020000)
    ∷ []

-- a worked example of the papers: S is X(X(a, b), X(b, a)), X(y1, y2) is h(i(y1), i(y2)); no transitions (000 §5, Example 6)
unfoldable pub papers : List SheetRow
papers =
    marks (hex 34 0x0C00_0400_1000_1000_2000_0200_00000201_02050203800381_000740400001400100_0100) declined 0 13 (hex 13 0x02030203000301030203010300)
    ∷ []

-- refusals 1 to 11 and 13 to 16: an example, and a row for each other thing that the number's test looks at (01 Refusals, 02 R-3)
unfoldable pub sheet_refusals : List SheetRow
sheet_refusals =
    refuses 1 []
    ∷ refuses 1 (take 11 W)
    ∷ refuses 1 (W ++ replicate 1775 0xFF)
    -- contents: each offset and each length, low byte and high byte; a byte too many
    ∷ refuses 2 (w_with 0 0x0D)
    ∷ refuses 2 (set (w_with 0 0x0D) 2 0x02)
    ∷ refuses 2 (w_with 1 0x01)
    ∷ refuses 2 (w_with 2 0x02)
    ∷ refuses 2 (w_with 3 0x01)
    ∷ refuses 2 (w_with 4 0x10)
    ∷ refuses 2 (w_with 5 0x01)
    ∷ refuses 2 (w_with 6 0x10)
    ∷ refuses 2 (w_with 7 0x01)
    ∷ refuses 2 (w_with 8 0x21)
    ∷ refuses 2 (w_with 9 0x01)
    ∷ refuses 2 (w_with 10 0x19)
    ∷ refuses 2 (w_with 11 0x01)
    ∷ refuses 2 (W ++ (0xFF ∷ []))
    ∷ refuses 2 (replicate 58 0xFF)
    -- three empty bodies; 33 terminals
    ∷ refuses 3 (hex 12 0x0C00_0000_0C00_0000_0C00_0000)
    ∷ refuses 3 (hex 12 0x0C00_2100_2D00_1100_3E00_1A00 ++ (w_alphabet ++ (replicate 30 0x00 ++ (w_rules ++ w_automaton))))
    ∷ refuses 4 (w_with 12 0x05)
    -- a rule's end past the body's; no rules; a rank alone
    ∷ refuses 5 (w_with 27 0x05)
    ∷ refuses 5 (hex 12 0x0C00_0300_0F00_0000_0F00_1A00 ++ (w_alphabet ++ w_automaton))
    ∷ refuses 5 (hex 12 0x0C00_0300_0F00_1200_2100_1A00 ++ (w_alphabet ++ (w_rules ++ (0x00 ∷ w_automaton))))
    -- 65 times 00 01 00
    ∷ refuses 6 (hex 12 0x0C00_0300_0F00_C300_D200_1A00 ++ (w_alphabet ++ (times 65 (hex 3 0x000100) ++ w_automaton)))
    -- one rule of 129
    ∷ refuses 7 (hex 12 0x0C00_0300_0F00_8300_9200_1A00 ++ (w_alphabet ++ (hex 2 0x0081 ++ (replicate 128 0x02 ++ (0x00 ∷ w_automaton)))))
    ∷ refuses 8 (w_with 15 0x05)
    -- no such terminal; no such parameter; a rule that calls itself; other bytes
    ∷ refuses 9 (w_with 22 0x03)
    ∷ refuses 9 (w_with 19 0x81)
    ∷ refuses 9 (w_with 23 0x41)
    ∷ refuses 9 (w_with 22 0x20)
    ∷ refuses 9 (w_with 22 0x84)
    ∷ refuses 9 (w_with 22 0xFF)
    -- two trees; a child that is lacking; another where rule 0 has a second parameter, which it leaves out; no nodes
    ∷ refuses 10 (w_with 28 0x00)
    ∷ refuses 10 (w_with 31 0x02)
    ∷ refuses 10 (w_with 15 0x02)
    ∷ refuses 10 (hex 12 0x0C00_0300_0F00_0200_1100_1A00 ++ (w_alphabet ++ (hex 2 0x0000 ++ w_automaton)))
    -- a parameter twice and another not at all; f(y1, y1)
    ∷ refuses 11 (w_with 25 0x81)
    ∷ refuses 11 (hex 12 0x0C00_0300_0F00_0500_1400_1A00 ++ (w_alphabet ++ (hex 5 0x0103018080 ++ w_automaton)))
    -- rule 0 refused by 11 and rule 1 by 8: rule by rule
    ∷ refuses 11 (hex 12 0x0C00_0300_0F00_0800_1700_1A00 ++ (w_alphabet ++ (hex 8 0x0103018080_050100 ++ w_automaton)))
    -- W without rule 2; rule 01 01 80
    ∷ refuses 13 (hex 12 0x0C00_0300_0F00_0B00_1A00_1A00 ++ (w_alphabet ++ (take 11 w_rules ++ w_automaton)))
    ∷ refuses 13 (hex 12 0x0C00_0300_0F00_0300_1200_1A00 ++ (w_alphabet ++ (hex 3 0x010180 ++ w_automaton)))
    -- W less its last byte; an automaton of 1 byte; 256 transitions
    ∷ refuses 14 (take 57 (w_with 10 0x19))
    ∷ refuses 14 (take 33 (w_with 10 0x01))
    ∷ refuses 14 (set (w_with 11 0x06) 10 0x02 ++ times 252 (hex 6 0x0000FFFFFFFF))
    -- 9 states; no state; a final state that does not exist
    ∷ refuses 15 (w_with 32 0x09)
    ∷ refuses 15 (set (w_with 32 0x00) 33 0x00)
    ∷ refuses 15 (w_with 33 0x04)
    -- terminal; target; a used child; an unused child
    ∷ refuses 16 (w_with 34 0x03)
    ∷ refuses 16 (w_with 35 0x02)
    ∷ refuses 16 (w_with 42 0x02)
    ∷ refuses 16 (w_with 55 0x02)
    ∷ refuses 16 (w_with 43 0x00)
    ∷ refuses 16 (w_with 57 0x00)
    ∷ []

-- rules that leave out a parameter or are a lone one, and what is refused in an argument that is dropped (02 R-3)
unfoldable pub empty_places : List SheetRow
empty_places =
    -- y1, called on a
    marks (hex 12 0x0C00_0300_0F00_0700_1600_1A00 ++ (w_alphabet ++ (hex 7 0x010180_00024000 ++ w_automaton))) accepted 1 1 (hex 1 0x00)
    -- y1 of two parameters, called on a, h(a)
    ∷ marks (hex 12 0x0C00_0300_0F00_0900_1800_1A00 ++ (w_alphabet ++ (hex 9 0x020180_000440000200 ++ w_automaton))) accepted 1 1 (hex 1 0x00)
    -- the same through a rule that has each of its two parameters
    ∷ marks (hex 12 0x0C00_0300_0F00_0E00_1D00_1A00 ++ (w_alphabet ++ (hex 14 0x020180_0203408081_000441000200 ++ w_automaton))) accepted 1 1 (hex 1 0x00)
    -- f(y3, y1), called on a, a, h(a)
    ∷ marks (hex 12 0x0C00_0300_0F00_0C00_1B00_1A00 ++ (w_alphabet ++ (hex 12 0x0303018280_00054000000200 ++ w_automaton))) declined 0 4 (hex 4 0x01020000)
    -- a of one parameter, called on f(a, a), which has no run: the one transition is a to 0
    ∷ marks (hex 12 0x0C00_0300_0F00_0900_1800_0800 ++ (w_alphabet ++ (hex 9 0x010100_000440010000 ++ hex 8 0x0201_0000FFFFFFFF))) accepted 1 1 (hex 1 0x00)
    -- in an argument that is dropped: a parameter that the rule does not have; a child that is lacking; the second occurrence of y1; both of them
    ∷ refuses 9 (hex 12 0x0C00_0300_0F00_0B00_1A00_1A00 ++ (w_alphabet ++ (hex 11 0x020180_0103408081_000100 ++ w_automaton)))
    ∷ refuses 10 (hex 12 0x0C00_0300_0F00_0800_1700_1A00 ++ (w_alphabet ++ (hex 8 0x010100_0003400100 ++ w_automaton)))
    ∷ refuses 11 (hex 12 0x0C00_0300_0F00_0B00_1A00_1A00 ++ (w_alphabet ++ (hex 11 0x020180_0103408080_000100 ++ w_automaton)))
    ∷ refuses 11 (hex 12 0x0C00_0300_0F00_0C00_1B00_1A00 ++ (w_alphabet ++ (hex 12 0x010100_010440018080_000100 ++ w_automaton)))
    ∷ []
