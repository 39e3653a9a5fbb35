-- Calls with what must come out (document 01, "Refusals with a sheet for each" and "Sheets for the desk", and document 02), as bytes and numbers.
use mathlib.Core.List.{List, [], ◌∷◌, ◌++◌}
use Rattle.std.specs.Prelude.{ℕ, ◌+◌, ◌*◌, ◌-◌, ◌^◌, take, set, replicate}
use Rattle.terms.specs.Tree.{preorder}
use Rattle.terms.specs.Form.{whole}
use Rattle.terms.specs.Relation.{compose_bits, apply_bits}
use Rattle.terms.specs.Sheet.{nodes_of, sheet_mask, sheet_of, wrapped}
use Rattle.terms.specs.Check.{sheet_refusal}
use Rattle.terms.specs.FormBytes.{head_length, rule_length, form_tree, form_bytes}
use Rattle.terms.specs.Calls.{rules_asked, form_asked, making_refusal, sheet_marking_refusal, marking_refusal, opening_refusal, reading_refusal, evaluation_refusal, relations_of, form_mask, size_refusal, unfolding_refusal, label_refusal, label_at, counts_of, walk_refusal, walk_mask, walk_masks, wrap_refusal}
use Rattle.terms.specs.Examples.{hex, times, W, w_with, w_alphabet, w_automaton, K7, K8}

-- what the definitions give for a call, and what must come out (01 Sheets for the desk)
pub record CallRow : Type 0 where
  pub gives : List ℕ
  pub says : List ℕ

-- a number, and what it must be (01 Sheets for the desk)
abbrev pub is : ℕ → ℕ → CallRow
is n m = record { gives = n ∷ []; says = m ∷ [] }

-- a tally's counts, all 0 but candidate c's count at place w, which is n (02 R-1)
abbrev pub counting : ℕ → ℕ → ℕ → List ℕ
counting c w n = set (replicate 48 0) (3 * c + w) n

-- a form for W's tree: 0 is a, 1 is h(y), 2 is f(y, a), 3 is h(h(y)), 4 is f(h(y), a), 5 is f(h(h(h(y))), a), 6 is h(a), 7, the start, is
-- f(h(h(h(h(a)))), a), and 8 is f(h(a), a) (01 Sheets for the desk)
unfoldable pub form : List ℕ
form =
    hex 8 0x0900_0700_03_000201
    ++ hex 108 0x00000000_FFFFFFFFFFFFFFFF_01020100_FFFFFFFFFFFFFFFF_01010100_FFFF0000FFFFFFFF_03FF0000_01000100FFFFFFFF_03FF0000_02000100FFFFFFFF_03FF0000_04000300FFFFFFFF_02FF0000_01000000FFFFFFFF_02FF0000_05000600FFFFFFFF_00010000_06000000FFFFFFFF

-- the refusal of the form with one byte of its head set (02 R-5)
abbrev pub head_with : ℕ → ℕ → ℕ
head_with k b = opening_refusal w_alphabet (set form k b)

-- where byte k of a rule stands in the form (01 One-hole form, 02 R-5)
abbrev pub place_of : ℕ → ℕ → ℕ
place_of rule k = head_length 3 + rule_length * rule + k

-- the refusal of the form with one byte of a rule set (01 One-hole form)
abbrev pub rule_with : ℕ → ℕ → ℕ → ℕ
rule_with rule k b = opening_refusal w_alphabet (set form (place_of rule k) b)

-- the form's fields: all are in order, then one at a time is not (01 One-hole form)
unfoldable pub field_refusals : List CallRow
field_refusals =
    is (opening_refusal w_alphabet form) 0
    -- length: 3 bytes, none, one short, one too many
    ∷ is (opening_refusal w_alphabet (take 3 form)) 18
    ∷ is (opening_refusal w_alphabet []) 18
    ∷ is (opening_refusal w_alphabet (take 115 form)) 18
    ∷ is (opening_refusal w_alphabet (form ++ (0xFF ∷ []))) 18
    ∷ is (opening_refusal w_alphabet (replicate 116 0xFF)) 18
    -- a and f(a, a, a, a): whole, one byte short
    ∷ is (opening_refusal (hex 2 0x0004) (hex 31 0x0200_0100_02_0004_00000000_FFFFFFFFFFFFFFFF_00010000_0000000000000000)) 0
    ∷ is (opening_refusal (hex 2 0x0004) (hex 30 0x0200_0100_02_0004_00000000_FFFFFFFFFFFFFFFF_00010000_00000000000000)) 18
    -- rule count: another, none, 2,049
    ∷ is (head_with 0 0x08) 18
    ∷ is (opening_refusal w_alphabet (hex 8 0x0000_0000_03_000201)) 18
    ∷ is (opening_refusal w_alphabet (hex 8 0x0108_0000_03_000201 ++ times 2049 (hex 12 0x00000000_FFFFFFFFFFFFFFFF))) 18
    -- start: not below R, of rank 1
    ∷ is (head_with 2 0x09) 18
    ∷ is (head_with 2 0x05) 18
    -- kind 0, rule 8: kind, terminal, terminal's rank, hole, fourth byte, slot not lower, slot of rank 1, used slot FFFF, unused slot not FFFF
    ∷ is (rule_with 8 0 0x04) 18
    ∷ is (rule_with 8 1 0x03) 18
    ∷ is (rule_with 8 1 0x02) 18
    ∷ is (rule_with 8 2 0x01) 18
    ∷ is (rule_with 8 3 0x01) 18
    ∷ is (rule_with 8 4 0x08) 18
    ∷ is (rule_with 8 6 0x01) 18
    ∷ is (opening_refusal w_alphabet (take (place_of 8 6) form ++ replicate 6 0xFF)) 18
    ∷ is (rule_with 8 8 0x00) 18
    ∷ is (rule_with 8 11 0x00) 18
    -- kind 0, rule 0, whose slots are all unused: terminal, hole; rule 8 as kind 1 with hole 0, and with hole 3
    ∷ is (rule_with 0 1 0x03) 18
    ∷ is (rule_with 0 2 0x01) 18
    ∷ is (rule_with 8 0 0x01) 18
    ∷ is (opening_refusal w_alphabet (set (set form (place_of 8 0) 0x01) (place_of 8 2) 0x03)) 18
    -- kind 1, rule 2: terminal, hole 0, hole past the rank, another hole, fourth byte, the hole's slot, the other slot, an unused slot
    ∷ is (rule_with 2 1 0x03) 18
    ∷ is (rule_with 2 2 0x00) 18
    ∷ is (rule_with 2 2 0x03) 18
    ∷ is (rule_with 2 2 0x02) 18
    ∷ is (rule_with 2 3 0x01) 18
    ∷ is (rule_with 2 4 0x00) 18
    ∷ is (rule_with 2 6 0x01) 18
    ∷ is (rule_with 2 7 0x01) 18
    ∷ is (rule_with 2 8 0x00) 18
    -- kind 3, rule 5: terminal, hole, fourth byte, B not lower, B of rank 0, C of rank 0, unused slots
    ∷ is (rule_with 5 1 0x00) 18
    ∷ is (rule_with 5 2 0x01) 18
    ∷ is (rule_with 5 3 0x01) 18
    ∷ is (rule_with 5 4 0x05) 18
    ∷ is (rule_with 5 4 0x00) 18
    ∷ is (rule_with 5 6 0x00) 18
    ∷ is (rule_with 5 8 0x00) 18
    ∷ is (rule_with 5 10 0x00) 18
    -- kind 2, rule 6: terminal, hole, fourth byte, B of rank 0, C not lower, C of rank 1, unused slots
    ∷ is (rule_with 6 1 0x00) 18
    ∷ is (rule_with 6 2 0x01) 18
    ∷ is (rule_with 6 3 0x01) 18
    ∷ is (rule_with 6 4 0x00) 18
    ∷ is (rule_with 6 6 0x07) 18
    ∷ is (rule_with 6 6 0x01) 18
    ∷ is (rule_with 6 8 0x00) 18
    ∷ is (rule_with 6 10 0x00) 18
    ∷ []

-- a form of one rule, the tree a, over W's alphabet (02 R-5)
abbrev pub leaf : List ℕ
leaf = hex 20 0x0100_0000_03_000201_00000000_FFFFFFFFFFFFFFFF

-- a form of the rules a and f(a), whatever rank the head gives to f (02 R-5)
abbrev pub unary : ℕ → List ℕ
unary rank = hex 5 0x0200_0100_02 ++ (0 ∷ rank ∷ hex 24 0x00000000_FFFFFFFFFFFFFFFF_00010000_0000FFFFFFFFFFFF)

-- a form of the rules a and f(a, a), whatever rank the head gives to f (02 R-5)
abbrev pub binary : ℕ → List ℕ
binary rank = hex 5 0x0200_0100_02 ++ (0 ∷ rank ∷ hex 24 0x00000000_FFFFFFFFFFFFFFFF_00010000_00000000FFFFFFFF)

-- a form of the tree a, whose head has so many terminals of rank 0 (02 R-5)
abbrev pub leaf_over : ℕ → List ℕ
leaf_over terminals = hex 4 0x0100_0000 ++ (terminals ∷ (replicate terminals 0 ++ hex 12 0x00000000_FFFFFFFFFFFFFFFF))

-- the alphabet in a form's head, and the one that is given with the form (02 R-5)
unfoldable pub alphabets : List CallRow
alphabets =
    -- the tree a, as it is written, and given with the alphabet in its head
    record { gives = form_bytes w_alphabet (whole 0 [] ∷ []) 0; says = leaf }
    ∷ is (opening_refusal w_alphabet leaf) 0
    ∷ record { gives = preorder (form_tree w_alphabet leaf); says = 0x00 ∷ [] }
    -- with other ranks, with a terminal less, with one more: also of terminals that the form does not use
    ∷ is (opening_refusal (hex 3 0x000102) leaf) 28
    ∷ is (opening_refusal (hex 2 0x0002) leaf) 28
    ∷ is (opening_refusal (hex 4 0x00020100) leaf) 28
    ∷ is (opening_refusal (hex 3 0x000202) leaf) 28
    -- a rule is read against the head: f(a) and f(a, a) with f of rank 1 and of rank 2 in the head, given the one and the other
    ∷ is (opening_refusal (hex 2 0x0001) (unary 1)) 0
    ∷ is (opening_refusal (hex 2 0x0002) (unary 1)) 28
    ∷ is (opening_refusal (hex 2 0x0002) (binary 1)) 18
    ∷ is (opening_refusal (hex 2 0x0001) (binary 1)) 18
    ∷ is (opening_refusal (hex 2 0x0002) (binary 2)) 0
    ∷ is (opening_refusal (hex 2 0x0001) (binary 2)) 28
    -- T: none, 32, 33, one less and one more than the ranks that follow
    ∷ is (opening_refusal (hex 1 0x00) (leaf_over 0)) 18
    ∷ is (opening_refusal (replicate 32 0) (leaf_over 32)) 0
    ∷ is (opening_refusal (replicate 32 0) (leaf_over 33)) 18
    ∷ is (head_with 4 0x02) 18
    ∷ is (head_with 4 0x04) 18
    -- a rank of 5 in the head is no refusal 4; another rank of f makes its rules wrong, and comes before 28
    ∷ is (head_with 5 0x05) 18
    ∷ is (opening_refusal (hex 3 0x000205) (set leaf 7 0x05)) 4
    ∷ is (opening_refusal w_alphabet (set leaf 7 0x05)) 18
    ∷ is (head_with 6 0x03) 18
    ∷ is (opening_refusal w_alphabet (set leaf 7 0x00)) 28
    -- one byte short, one too many, and without the alphabet in the head, as forms were before
    ∷ is (opening_refusal w_alphabet (take 19 leaf)) 18
    ∷ is (opening_refusal w_alphabet (leaf ++ (0x00 ∷ []))) 18
    ∷ is (opening_refusal w_alphabet (hex 16 0x0100_0000_00000000_FFFFFFFFFFFFFFFF)) 18
    -- 3 and 4 before 18, 18 before 28, and 28 before 19, 20 and 21
    ∷ is (opening_refusal [] []) 3
    ∷ is (opening_refusal (hex 1 0x05) []) 4
    ∷ is (opening_refusal (hex 3 0x000102) (take 19 leaf)) 18
    ∷ is (reading_refusal (hex 3 0x000102) leaf 1) 28
    ∷ is (size_refusal (hex 3 0x000102) leaf 0) 28
    ∷ is (unfolding_refusal (hex 3 0x000102) leaf 0 0) 28
    ∷ is (label_refusal (hex 3 0x000102) leaf 1 0) 28
    -- 14 to 16 are of the alphabet given, and come before both
    ∷ is (evaluation_refusal (hex 1 0x00) w_automaton [] 0) 16
    ∷ is (evaluation_refusal (hex 4 0x00020100) w_automaton (take 19 leaf) 0) 18
    ∷ is (evaluation_refusal (hex 4 0x00020100) w_automaton leaf 0) 28
    ∷ is (evaluation_refusal w_alphabet w_automaton leaf 0) 19
    ∷ []

-- relations composed, the outer one named first, and applied to a set of states; bit 8 * p + q is the pair p, q (02 R-4)
unfoldable pub composing : List CallRow
composing =
    -- the pair 1, 2 around the pair 0, 1, and the other way round
    is (compose_bits 0x400 0x02) 0x04
    ∷ is (compose_bits 0x02 0x400) 0
    -- from 0 to 0 by way of 0 and by way of 1: one pair, where a sum gives 2 and an exclusive or 0
    ∷ is (compose_bits 0x0101 0x03) 0x01
    ∷ is (apply_bits 0x0101 0x03) 0x01
    -- a relation around the identity
    ∷ is (compose_bits 0x0123_4567_89AB_CDEF 0x8040_2010_0804_0201) 0x0123_4567_89AB_CDEF
    -- every pair, twice, around no pair, and applied to every state, to state 7, to none
    ∷ is (compose_bits 0xFFFF_FFFF_FFFF_FFFF 0xFFFF_FFFF_FFFF_FFFF) 0xFFFF_FFFF_FFFF_FFFF
    ∷ is (compose_bits 0xFFFF_FFFF_FFFF_FFFF 0) 0
    ∷ is (apply_bits 0xFFFF_FFFF_FFFF_FFFF 0xFF) 0xFF
    ∷ is (apply_bits 0xFFFF_FFFF_FFFF_FFFF 0x80) 0xFF
    ∷ is (apply_bits 0xFFFF_FFFF_FFFF_FFFF 0) 0
    ∷ []

-- a sheet of these rules, over W's alphabet and with its automaton (02 R-6)
abbrev pub ruled : List ℕ → List ℕ
ruled rules = sheet_of w_alphabet rules w_automaton

-- a sheet that passes, and for which so many bytes and numbers are asked (02 R-6)
abbrev pub asks : List ℕ → ℕ → ℕ → CallRow
asks s bytes numbers = record { gives = sheet_refusal s ∷ form_asked s ∷ rules_asked s ∷ []; says = 0 ∷ bytes ∷ numbers ∷ [] }

-- the sum over a sheet as written, and what is asked for by it (02 R-6)
unfoldable pub rooms : List CallRow
rooms =
    asks W 212 17
    ∷ asks K7 308 25
    -- a; f of two calls of rank 0, which add nothing
    ∷ asks (ruled (hex 3 0x000100)) 32 2
    ∷ asks (ruled (hex 8 0x000100_0003014040)) 56 4
    -- a call of rank 4 counts 13, though three arguments are dropped, and they count; one of rank 2 counts 5, one of rank 1 counts 1
    ∷ asks (ruled (hex 10 0x040180_00054000000000)) 260 21
    ∷ asks (ruled (hex 9 0x020180_000440000200)) 140 11
    ∷ asks (ruled (hex 7 0x010180_00024000)) 44 3
    -- a rule that is never called
    ∷ asks (ruled (hex 7 0x00020200_000100)) 80 6
    -- 128 nodes, 31 of them calls of rank 4
    ∷ asks (ruled (hex 7 0x040100_007F0202 ++ (replicate 31 0x40 ++ replicate 94 0x00))) 7172 597
    -- 17 for a byte fewer, before 19 for a number fewer
    ∷ is (making_refusal (ruled (hex 3 0x000100)) 31) 17
    ∷ is (making_refusal (ruled (hex 3 0x000100)) 32) 0
    ∷ is (sheet_marking_refusal (ruled (hex 3 0x000100)) 31 1) 17
    ∷ is (sheet_marking_refusal (ruled (hex 3 0x000100)) 32 1) 19
    ∷ is (sheet_marking_refusal (ruled (hex 3 0x000100)) 32 2) 0
    ∷ []

-- refusals 17 to 26, the order of each call's refusals, and what the calls on a form answer (01 Refusals, 02 R-1)
unfoldable pub calls : List CallRow
calls =
    -- right-side nodes
    is (nodes_of W) 11
    ∷ is (nodes_of K7) 34
    -- child states in order: f(1, 0) to 0 and f(0, 1) to 0 on f(h(a), a)
    ∷ is (sheet_mask (set K8 48 0x01)) 1
    ∷ is (sheet_mask (set K8 49 0x01)) 0
    -- form making
    ∷ is (making_refusal W 211) 17
    ∷ is (making_refusal W 212) 0
    ∷ is (making_refusal (w_with 34 0x03) 0) 16
    -- marking: 1 to 16, 17, 19
    ∷ is (sheet_marking_refusal W 212 17) 0
    ∷ is (sheet_marking_refusal W 211 16) 17
    ∷ is (sheet_marking_refusal W 212 16) 19
    -- marking for a candidate: 26, 25, 1 to 16, 17, 19
    ∷ is (marking_refusal (counting 2 0 0) 2 W 212 17) 0
    ∷ is (marking_refusal (counting 2 0 0) 2 W 212 16) 19
    ∷ is (marking_refusal (counting 2 0 0) 2 W 211 16) 17
    ∷ is (marking_refusal (counting 2 0 0) 2 [] 0 0) 1
    -- one of candidate 2's counts is full, each in turn; those of the others may be
    ∷ is (marking_refusal (counting 2 0 4_294_967_295) 2 [] 0 0) 25
    ∷ is (marking_refusal (counting 2 1 4_294_967_295) 2 [] 0 0) 25
    ∷ is (marking_refusal (counting 2 2 4_294_967_295) 2 [] 0 0) 25
    ∷ is (marking_refusal (counting 2 0 4_294_967_294) 2 W 212 17) 0
    ∷ is (marking_refusal (counting 2 0 4_294_967_295) 3 W 212 17) 0
    ∷ is (marking_refusal (counting 2 2 4_294_967_295) 3 W 212 17) 0
    ∷ is (marking_refusal (counting 2 0 4_294_967_295) 1 W 212 17) 0
    ∷ is (marking_refusal (counting 15 2 4_294_967_295) 15 [] 0 0) 25
    -- no candidate has the number, whatever the counts and the sheet are
    ∷ is (marking_refusal (counting 2 0 0) 16 [] 0 0) 26
    ∷ is (marking_refusal (counting 0 0 4_294_967_295) 16 [] 0 0) 26
    ∷ is (marking_refusal (replicate 51 4_294_967_295) 16 [] 0 0) 26
    ∷ is (marking_refusal (counting 2 0 0) 256 W 212 17) 26
    -- evaluation: 3, 4, 14 to 16, 18, 28, 19
    ∷ is (evaluation_refusal w_alphabet w_automaton form 9) 0
    ∷ is (evaluation_refusal w_alphabet w_automaton form 8) 19
    ∷ is (evaluation_refusal w_alphabet w_automaton [] 0) 18
    ∷ is (evaluation_refusal w_alphabet (set w_automaton 2 0x03) [] 0) 16
    ∷ is (evaluation_refusal w_alphabet [] [] 0) 14
    ∷ is (evaluation_refusal (hex 3 0x000501) [] [] 0) 4
    ∷ is (evaluation_refusal [] [] [] 0) 3
    ∷ record { gives = relations_of w_alphabet w_automaton form; says = 1 ∷ 258 ∷ 1 ∷ 513 ∷ 256 ∷ 256 ∷ 2 ∷ 1 ∷ 0 ∷ [] }
    ∷ is (form_mask w_alphabet w_automaton form) 1
    -- size, unfolding, label and reading: 3, 4, 18, 28, 19, then 20 or 21
    ∷ is (size_refusal w_alphabet form 18) 0
    ∷ is (size_refusal w_alphabet form 17) 19
    ∷ is (size_refusal w_alphabet [] 0) 18
    ∷ is (size_refusal [] [] 0) 3
    ∷ record { gives = preorder (form_tree w_alphabet form); says = hex 7 0x01020202020000 }
    ∷ record { gives = counts_of w_alphabet form; says = 1 ∷ 0 ∷ 1 ∷ 1 ∷ 2 ∷ 1 ∷ 2 ∷ 2 ∷ 3 ∷ 2 ∷ 5 ∷ 4 ∷ 2 ∷ 0 ∷ 7 ∷ 0 ∷ 4 ∷ 0 ∷ [] }
    ∷ is (unfolding_refusal w_alphabet form 18 7) 0
    ∷ is (unfolding_refusal w_alphabet form 18 6) 20
    ∷ is (unfolding_refusal w_alphabet form 17 6) 19
    ∷ is (label_refusal w_alphabet form 6 18) 0
    ∷ is (label_refusal w_alphabet form 7 18) 21
    ∷ is (label_refusal w_alphabet form (2 ^ 64 - 1) 18) 21
    ∷ is (label_refusal w_alphabet form 7 17) 19
    ∷ is (label_at w_alphabet form 0) 0x01
    ∷ is (label_at w_alphabet form 4) 0x02
    ∷ is (label_at w_alphabet form 5) 0x00
    ∷ is (reading_refusal w_alphabet form 8) 0
    ∷ is (reading_refusal w_alphabet form 9) 21
    ∷ is (reading_refusal w_alphabet [] 9) 18
    -- walk: 3, 4, 14 to 16, 22, 23, 19; K9
    ∷ is (walk_refusal w_alphabet w_automaton (hex 2 0x0100) 2) 23
    ∷ is (walk_refusal w_alphabet w_automaton (hex 4 0x01020000) 4) 0
    ∷ is (walk_refusal w_alphabet w_automaton (hex 4 0x01020000) 3) 19
    ∷ is (walk_refusal w_alphabet w_automaton (hex 1 0x03) 0) 23
    ∷ is (walk_refusal w_alphabet w_automaton [] 0) 23
    ∷ is (walk_refusal w_alphabet w_automaton (replicate 4097 0x00) 0) 22
    ∷ is (walk_refusal w_alphabet w_automaton (replicate 4096 0x00) 0) 23
    ∷ is (walk_refusal w_alphabet [] (replicate 4097 0x00) 0) 14
    ∷ is (walk_refusal [] [] [] 0) 3
    ∷ is (walk_mask w_alphabet w_automaton (hex 4 0x01020000)) 0
    ∷ record { gives = walk_masks w_alphabet w_automaton (hex 7 0x01020202020000); says = hex 7 0x01010201020101 }
    -- wrap: 3, 4, 22, 23, 14 to 16, 24
    ∷ is (wrap_refusal w_alphabet (hex 7 0x01020202020000) w_automaton 50) 0
    ∷ is (wrap_refusal w_alphabet (hex 7 0x01020202020000) w_automaton 49) 24
    ∷ is (wrap_refusal w_alphabet (hex 1 0x00) w_automaton 0) 24
    ∷ is (wrap_refusal w_alphabet (hex 1 0x00) [] 0) 14
    ∷ is (wrap_refusal w_alphabet (hex 2 0x0100) [] 0) 23
    ∷ is (wrap_refusal w_alphabet (replicate 129 0x00) [] 0) 22
    ∷ is (wrap_refusal w_alphabet (replicate 128 0x02) [] 0) 23
    ∷ is (wrap_refusal [] (replicate 129 0x00) [] 0) 3
    ∷ record {
      gives = wrapped w_alphabet (hex 4 0x01020000) w_automaton;
      says = hex 12 0x0C00_0300_0F00_0600_1500_1A00 ++ (w_alphabet ++ (hex 6 0x000401020000 ++ w_automaton));
    }
    ∷ []
