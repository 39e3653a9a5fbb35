-- Tables of rules with what must come out (document 02, R-7), as bytes.
use Rattle.std.specs.Prelude.{cond, List, [], ◌∷◌, ℕ, suc, eqb}
use Rattle.terms.specs.Test.{tabulate}
use Rattle.terms.specs.Sheet.{alphabet_of, rules_of, automaton_of, state_count, transitions_of, sheet_mask, sheet_of}
use Rattle.terms.specs.Examples.{hex, W, w_with, w_alphabet}
use Rattle.terms.specs.CallExamples.{CallRow, is, ruled}
use Rattle.blackboard_terms.specs.Blackboard.{table_byte, blackboard_refusal}

-- the bytes that are not 0, each behind its place, where the first place is n (02 R-7)
unfoldable pub not_zero : ℕ → List ℕ → List ℕ
not_zero n [] = []
not_zero n (b ∷ bs) = let behind = not_zero (suc n) bs in cond (eqb b 0) behind (n ∷ b ∷ behind)

-- a rule of a sheet, and those of the first n bytes of its table that are not 0, each behind its place (02 R-7)
abbrev pub tabled : List ℕ → ℕ → ℕ → List ℕ → CallRow
tabled s i n out = record {
  gives = not_zero 0 (tabulate n (table_byte (alphabet_of s) (rules_of s) (transitions_of (alphabet_of s) (automaton_of s)) (state_count (automaton_of s)) i));
  says = out;
}

-- an automaton with the states 0 and 1 over the alphabet of W: a to both, and f(0, 1) and f(1, 0) to 0 (02 R-7)
abbrev pub unlike : List ℕ
unlike = hex 26 0x0200_0000FFFFFFFF_0001FFFFFFFF_01000001FFFF_01000100FFFF

-- rules over the alphabet of W with that automaton (02 R-7)
abbrev pub paired : List ℕ → List ℕ
paired rules = sheet_of w_alphabet rules unlike

-- one state, and the only transition is a to 0; rule 0 drops its argument, which has no run here (02 R-7)
abbrev pub runless : List ℕ
runless = sheet_of w_alphabet (hex 8 0x010100_0003400200) (hex 8 0x0100_0000FFFFFFFF)

-- tables, masks and refusals (02 R-7)
unfoldable pub blackboard_rows : List CallRow
blackboard_rows =
    tabled W 0 80 (0 ∷ 0x01 ∷ 1 ∷ 0x02 ∷ [])
    ∷ tabled W 1 80 (0 ∷ 0x01 ∷ [])
    ∷ tabled W 2 80 (0 ∷ 0x01 ∷ [])
    -- a lone parameter of rank 1, and of rank 2, whose other parameter is free; a rule that hands both to it
    ∷ tabled (ruled (hex 7 0x010180_00024000)) 0 80 (0 ∷ 0x01 ∷ 1 ∷ 0x02 ∷ [])
    ∷ tabled (ruled (hex 13 0x020180_0203408081_000341_0000)) 0 80 (0 ∷ 0x01 ∷ 1 ∷ 0x02 ∷ 8 ∷ 0x01 ∷ 9 ∷ 0x02 ∷ [])
    ∷ tabled (ruled (hex 13 0x020180_0203408081_000341_0000)) 1 80 (0 ∷ 0x01 ∷ 1 ∷ 0x02 ∷ 8 ∷ 0x01 ∷ 9 ∷ 0x02 ∷ [])
    -- a lone parameter of rank 4: the fourth, and the others are free
    ∷ tabled (ruled (hex 6 0x040183_000100)) 0 592
    (0 ∷ 0x01 ∷ 1 ∷ 0x01 ∷ 8 ∷ 0x01 ∷ 9 ∷ 0x01 ∷ 64 ∷ 0x01 ∷ 65 ∷ 0x01 ∷ 72 ∷ 0x01 ∷ 73 ∷ 0x01 ∷ 512 ∷ 0x02 ∷ 513 ∷ 0x02 ∷ 520 ∷ 0x02 ∷ 521 ∷ 0x02 ∷ 576 ∷ 0x02 ∷ 577 ∷ 0x02 ∷ 584 ∷ 0x02 ∷ 585 ∷ 0x02 ∷ [])
    -- f(y1, y2): pairs of states, and not a state at each parameter by itself; h has no transition here
    ∷ tabled (paired (hex 11 0x0203018081_000440000200)) 0 80 (1 ∷ 0x01 ∷ 8 ∷ 0x01 ∷ [])
    ∷ tabled (paired (hex 11 0x0203018081_000440000200)) 1 80 []
    -- f(y2, h(y1)), where h takes 0 to 1 and 1 to 0, and f(0, 0) is 0
    ∷ tabled (ruled (hex 12 0x02040181_0280_000440000200)) 0 80 (1 ∷ 0x01 ∷ [])
    -- a dropped argument is not asked for a run, and its parameter is free
    ∷ tabled runless 0 80 (0 ∷ 0x01 ∷ [])
    ∷ tabled runless 1 80 (0 ∷ 0x01 ∷ [])
    ∷ is (sheet_mask runless) 1
    -- 4,096 bytes for each rule; 1 to 16 before 19
    ∷ is (blackboard_refusal W 12288) 0
    ∷ is (blackboard_refusal W 12287) 19
    ∷ is (blackboard_refusal [] 0) 1
    ∷ is (blackboard_refusal (w_with 34 0x03) 0) 16
    ∷ []
