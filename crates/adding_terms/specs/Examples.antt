-- Calls that add a transition, with what must come out (document 02, R-8), as bytes and numbers.
use Rattle.std.specs.Prelude.{cond, List, [], ◌∷◌, ℕ, length, set, replicate}
use Rattle.terms.specs.Test.{tabulate}
use Rattle.terms.specs.Calls.{lent_after, relations_of}
use Rattle.terms.specs.FormBytes.{rule_count, form_rules}
use Rattle.terms.specs.Examples.{hex, times, w_alphabet}
use Rattle.terms.specs.CallExamples.{CallRow, is, form}
use Rattle.adding_terms.specs.Dependence.{depends_at}
use Rattle.adding_terms.specs.Adding.{longer, adding_refusal, added_relations, added_mask}

-- a call over the alphabet of W: what it refuses, what it answers and the slice that is left (02 R-8)
abbrev pub adds : List ℕ → List ℕ → List ℕ → List ℕ → ℕ → List ℕ → CallRow
adds form automaton new held mask left = record {
  gives = adding_refusal w_alphabet form automaton new (length held) ∷ added_mask w_alphabet form automaton new held ∷ lent_after 0 (added_relations w_alphabet form automaton new held) held;
  says = 0 ∷ mask ∷ left;
}

-- what a call over the alphabet of W refuses, where so many numbers are lent (02 R-8)
abbrev pub refuses : List ℕ → List ℕ → List ℕ → ℕ → ℕ → CallRow
refuses form automaton new numbers n = is (adding_refusal w_alphabet form automaton new numbers) n

-- which rules of a form depend on terminal f: 1 for each that does (02 R-8)
abbrev pub dependents : List ℕ → ℕ → List ℕ → CallRow
dependents form f out = record { gives = tabulate (rule_count form) (λ i. cond (depends_at f (form_rules w_alphabet form) i) 1 0); says = out }

-- rules over the alphabet of W, of which the last is the start: a; h(rule 0) (02 R-8)
abbrev pub chain : List ℕ
chain = hex 32 0x0200_0100_03_000201_00000000_FFFFFFFFFFFFFFFF_00020000_0000FFFFFFFFFFFF

-- h(y); a; rule 0 around rule 1 (02 R-8)
abbrev pub around : List ℕ
around = hex 44 0x0300_0200_03_000201_01020100_FFFFFFFFFFFFFFFF_00000000_FFFFFFFFFFFFFFFF_02FF0000_00000100FFFFFFFF

-- two states and "a to 0"; "a to 0", "a to 1", "h(0) to 1" and "f(0, 0) to 0" as transitions (02 R-8)
abbrev pub only_a : List ℕ
only_a = hex 8 0x0200_0000FFFFFFFF

abbrev pub a_to0 : List ℕ
a_to0 = hex 6 0x0000FFFFFFFF

abbrev pub a_to1 : List ℕ
a_to1 = hex 6 0x0001FFFFFFFF

abbrev pub h_to1 : List ℕ
h_to1 = hex 6 0x020100FFFFFF

abbrev pub f_to0 : List ℕ
f_to0 = hex 6 0x01000000FFFF

-- an automaton of two states with "a to 0" so many times (02 R-8)
abbrev pub repeated : ℕ → List ℕ
repeated n = 0x02 ∷ 0x00 ∷ times n a_to0

-- entries and answers (02 R-8)
unfoldable pub added_entries : List CallRow
added_entries =
    -- redone from the entry below as it is held; only its low 8 bits are read, and nothing is or-ed into what was held
    adds chain only_a h_to1 (1 ∷ 0 ∷ 7 ∷ []) 2 (1 ∷ 2 ∷ 7 ∷ [])
    ∷ adds chain only_a h_to1 (0x102 ∷ 0xFFFF ∷ []) 0 (0x102 ∷ 0 ∷ [])
    -- both depend on a; neither depends on f, and the answer is still the start's
    ∷ adds chain only_a a_to1 (0 ∷ 0xFF ∷ []) 0 (3 ∷ 0 ∷ [])
    ∷ adds chain only_a f_to0 (5 ∷ 0x1234 ∷ []) 0x34 (5 ∷ 0x1234 ∷ [])
    -- all eight states are gone through, though there is one state
    ∷ adds around (hex 2 0x0100) a_to0 (0x20 ∷ 0 ∷ 0 ∷ []) 0x20 (0x20 ∷ 1 ∷ 0x20 ∷ [])
    -- relations of the old automaton carried over, and what a fresh evaluation of the longer one gives
    ∷ adds around only_a h_to1 (0 ∷ 1 ∷ 0 ∷ []) 2 (2 ∷ 1 ∷ 2 ∷ [])
    ∷ record { gives = relations_of w_alphabet only_a around; says = 0 ∷ 1 ∷ 0 ∷ [] }
    ∷ record { gives = relations_of w_alphabet (longer only_a h_to1) around; says = 2 ∷ 1 ∷ 2 ∷ [] }
    -- rules that have the terminal, and rules that call such a rule through others; the last rule is not reached from the start
    ∷ dependents form 0 (1 ∷ 0 ∷ 1 ∷ 0 ∷ 1 ∷ 1 ∷ 1 ∷ 1 ∷ 1 ∷ [])
    ∷ dependents form 1 (0 ∷ 0 ∷ 1 ∷ 0 ∷ 1 ∷ 1 ∷ 0 ∷ 1 ∷ 1 ∷ [])
    ∷ dependents form 2 (0 ∷ 1 ∷ 0 ∷ 1 ∷ 1 ∷ 1 ∷ 1 ∷ 1 ∷ 1 ∷ [])
    ∷ []

-- refusals: 3, 4, 14, 15, 16, 29, 18, 28, 19, each before what comes behind it (02 R-8)
unfoldable pub adding_refusals : List CallRow
adding_refusals =
    is (adding_refusal [] [] [] [] 0) 3
    ∷ is (adding_refusal (hex 1 0x05) [] [] [] 0) 4
    -- an old automaton of a wrong length, also with wrong states
    ∷ refuses [] [] [] 0 14
    ∷ refuses [] (hex 1 0x09) [] 0 14
    ∷ refuses [] (hex 7 0x0900_0000FFFFFF) [] 0 14
    ∷ refuses [] (repeated 256) [] 0 14
    -- a full one, also with wrong states or a wrong transition; of one with room for one more, the states are told
    ∷ refuses [] (repeated 255) (hex 5 0x0001FFFFFF) 0 14
    ∷ refuses [] (set (repeated 255) 0 0x09) [] 0 14
    ∷ refuses [] (set (repeated 255) 2 0x03) [] 0 14
    ∷ refuses [] (set (repeated 254) 0 0x09) [] 0 15
    ∷ refuses [] (hex 8 0x0200_0300FFFFFFFF) [] 0 16
    -- the new transition: too short, too long, its terminal, its target, a child state, unused ones
    ∷ refuses [] only_a [] 0 29
    ∷ refuses [] only_a (hex 5 0x0001FFFFFF) 0 29
    ∷ refuses [] only_a (hex 7 0x0001FFFFFFFFFF) 0 29
    ∷ refuses [] only_a (times 2 a_to1) 0 29
    ∷ refuses [] only_a (hex 6 0x0301FFFFFFFF) 0 29
    ∷ refuses [] only_a (hex 6 0x0002FFFFFFFF) 0 29
    ∷ refuses [] only_a (hex 6 0x020102FFFFFF) 0 29
    ∷ refuses [] only_a (hex 6 0x0201FFFFFFFF) 0 29
    ∷ refuses [] only_a (hex 6 0x02010000FFFF) 0 29
    ∷ refuses [] only_a (replicate 6 0xFF) 0 29
    ∷ refuses [] only_a a_to1 0 18
    ∷ is (adding_refusal (hex 3 0x000102) chain only_a a_to1 0) 28
    ∷ refuses chain only_a a_to1 1 19
    ∷ refuses chain only_a a_to1 2 0
    ∷ []
