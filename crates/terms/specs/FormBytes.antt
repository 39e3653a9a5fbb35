-- The bytes of a one-hole form (document 01, "One-hole form", and document 02, R-5).
use Rattle.std.specs.Prelude.{Bool, false, cond, not, ◌&&◌, List, [], ◌∷◌, ◌++◌, ℕ, zero, suc, ◌+◌, ◌*◌, ◌-◌, ◌/◌, ◌%◌, ltb, eqb, length, get_or, take, drop}
use Rattle.terms.specs.Test.{every, tabulate}
use Rattle.terms.specs.Refusal.{◌when◌, first, outside}
use Rattle.terms.specs.Bytes.{word, word_bytes}
use Rattle.terms.specs.Tree.{Tree}
use Rattle.terms.specs.Grammar.{terminal_rank}
use Rattle.terms.specs.Check.{alphabet_refusal}
use Rattle.terms.specs.Form.{Rule, whole, pierced, filled, composed, tree_in, value_at}

-- The parts of a form: its head, which has the number of its rules, its start and its alphabet, and the table of its rules.

-- where the ranks of the head begin: behind the rule count, the start and the terminal count (02 R-5)
abbrev pub ranks_offset : ℕ
ranks_offset = 5

-- how many bytes a head of T terminals has (02 R-5)
abbrev pub head_length : ℕ → ℕ
head_length terminals = ranks_offset + terminals

-- how many bytes a rule has (01 One-hole form)
abbrev pub rule_length : ℕ
rule_length = 12

-- the length of a form of T terminals and R rules: 5 + T + 12 · R (02 R-5)
abbrev pub form_length : ℕ → ℕ → ℕ
form_length terminals count = head_length terminals + rule_length * count

-- the number R of rules (01 One-hole form)
abbrev pub rule_count : List ℕ → ℕ
rule_count form = word form 0

-- the number of the start (01 One-hole form)
abbrev pub start_of : List ℕ → ℕ
start_of form = word form 2

-- the number T of terminals (02 R-5)
abbrev pub terminal_count : List ℕ → ℕ
terminal_count form = get_or form 4 0

-- the alphabet in the head: the rank of each terminal (02 R-5)
abbrev pub head_alphabet : List ℕ → List ℕ
head_alphabet form = take (terminal_count form) (drop ranks_offset form)

-- what stands behind a head of T terminals (02 R-5)
abbrev pub behind_head : ℕ → List ℕ → List ℕ
behind_head terminals form = drop (head_length terminals) form

-- the table of the rules, which stands behind the head (01 One-hole form)
abbrev pub table_of : List ℕ → List ℕ
table_of form = behind_head (terminal_count form) form

-- What the bytes of a table say. Rule i begins at its byte 12 · i.

-- how many rules a table has (01 One-hole form)
abbrev pub table_count : List ℕ → ℕ
table_count table = length table / rule_length

-- byte k of rule i: kind, terminal, hole, 00 (01 One-hole form)
abbrev pub rule_byte : List ℕ → ℕ → ℕ → ℕ
rule_byte table i k = get_or table (rule_length * i + k) 0

-- slot j of rule i, counted from 0 (01 One-hole form)
abbrev pub slot_of : List ℕ → ℕ → ℕ → ℕ
slot_of table i j = word table (rule_length * i + (4 + 2 * j))

-- the rank of the rules of a kind: 0 for kinds 0 and 2, 1 for kinds 1 and 3 (01 One-hole form)
abbrev pub kind_rank : ℕ → ℕ
kind_rank kind = kind % 2

-- the rank of rule i (01 One-hole form)
abbrev pub rank_at : List ℕ → ℕ → ℕ
rank_at table i = kind_rank (rule_byte table i 0)

-- a rule by its kind: terminal f of rank n, the open place at child h, slots by their places (01 One-hole form)
abbrev pub rule_of_kind : ℕ → ℕ → ℕ → ℕ → (ℕ → ℕ) → Rule
rule_of_kind zero f n h slot = whole f (tabulate n slot)
rule_of_kind (suc zero) f n h slot = pierced f (tabulate (h - 1) slot) (tabulate (n - h) (λ j. slot (h + j)))
rule_of_kind (suc (suc zero)) f n h slot = filled (slot 0) (slot 1)
rule_of_kind (suc (suc (suc kind))) f n h slot = composed (slot 0) (slot 1)

-- rule i, its terminal read against the alphabet (01 One-hole form)
unfoldable pub table_rule : List ℕ → List ℕ → ℕ → Rule
table_rule alphabet table i =
    let f = rule_byte table i 1 in
    rule_of_kind (rule_byte table i 0) f (terminal_rank alphabet f) (rule_byte table i 2) (slot_of table i)

-- the rules of a table (01 One-hole form)
unfoldable pub table_rules : List ℕ → List ℕ → List Rule
table_rules alphabet table = tabulate (table_count table) (table_rule alphabet table)

-- the rules of a form, read against the alphabet given, which is the one in its head where neither 18 nor 28 refuses the form (01 One-hole form, 02 R-5)
abbrev pub form_rules : List ℕ → List ℕ → List Rule
form_rules alphabet form = table_rules alphabet (table_of form)

-- the tree that the form derives: that of its start (01 One-hole form)
unfoldable pub form_tree : List ℕ → List ℕ → Tree
form_tree alphabet form = tree_in (value_at (form_rules alphabet form) (start_of form))

-- What is asked of them.

-- a is the number of a rule below i that has the rank k (01 One-hole form)
abbrev pub calls_lower : List ℕ → ℕ → ℕ → ℕ → Bool
calls_lower table i k a = ltb a i && eqb (rank_at table a) k

-- what stands in a slot that is not used (01 One-hole form)
abbrev pub unused : ℕ
unused = 0xFFFF

-- a slot that is not used (01 One-hole form)
abbrev pub unused_slot : ℕ → Bool
unused_slot a = eqb a unused

-- slot j of rule i, f(A1..An), the open place at child h, 0 where there is none: used, it has rank 0 (01 One-hole form)
abbrev pub slot_fits : List ℕ → ℕ → ℕ → ℕ → ℕ → Bool
slot_fits table i n h j = cond (ltb j n && not (eqb (suc j) h)) (calls_lower table i 0 (slot_of table i j)) (unused_slot (slot_of table i j))

-- the slots of f(A1..An) all fit (01 One-hole form)
abbrev pub slots_fit : List ℕ → ℕ → ℕ → ℕ → Bool
slots_fit table i n h = every 4 (slot_fits table i n h)

-- kinds 2 and 3: no terminal, no hole, B of rank 1 and C of rank k (01 One-hole form)
abbrev pub chain_fits : List ℕ → ℕ → ℕ → ℕ → ℕ → Bool
chain_fits table i f h k =
    eqb f 0xFF
    && (eqb h 0
    && (calls_lower table i 1 (slot_of table i 0)
    && (calls_lower table i k (slot_of table i 1) && (unused_slot (slot_of table i 2) && unused_slot (slot_of table i 3)))))

-- a rule by its kind: terminal f of rank n, below the number t of terminals, and hole h (01 One-hole form)
abbrev pub kind_fits : List ℕ → ℕ → ℕ → ℕ → ℕ → ℕ → ℕ → Bool
kind_fits table i zero t f n h = ltb f t && (eqb h 0 && slots_fit table i n h)
kind_fits table i (suc zero) t f n h = ltb f t && (not (outside 1 n h) && slots_fit table i n h)
kind_fits table i (suc (suc zero)) t f n h = chain_fits table i f h 0
kind_fits table i (suc (suc (suc zero))) t f n h = chain_fits table i f h 1
kind_fits table i (suc (suc (suc (suc kind)))) t f n h = false

-- rule i keeps the section's rules for the alphabet (01 One-hole form)
unfoldable pub rule_fits : List ℕ → List ℕ → ℕ → Bool
rule_fits alphabet table i =
    let f = rule_byte table i 1 in
    eqb (rule_byte table i 3) 0 && kind_fits table i (rule_byte table i 0) (length alphabet) f (terminal_rank alphabet f) (rule_byte table i 2)

-- the most rules of a form (01 One-hole form)
abbrev pub most_form_rules : ℕ
most_form_rules = 2048

-- the head is in order: 1 to 2,048 rules, the length that its counts say, and an alphabet that passes 3 and 4 (02 R-5)
abbrev pub head_fits : List ℕ → Bool
head_fits form =
    not (outside 1 most_form_rules (rule_count form))
    && (eqb (length form) (form_length (terminal_count form) (rule_count form)) && eqb (alphabet_refusal (head_alphabet form)) 0)

-- the start is a rule of rank 0, and each rule keeps the section's rules for the alphabet (01 One-hole form)
abbrev pub start_and_rules_fit : List ℕ → List ℕ → Bool
start_and_rules_fit alphabet form = calls_lower (table_of form) (rule_count form) 0 (start_of form) && every (rule_count form) (rule_fits alphabet (table_of form))

-- the form is valid: its head is in order, and start and rules keep the section's rules for the alphabet in the head (01 One-hole form, 02 R-5)
unfoldable pub valid_form : List ℕ → Bool
valid_form form = head_fits form && start_and_rules_fit (head_alphabet form) form

-- two alphabets are the same: as many terminals, and each of the same rank (02 R-5)
unfoldable pub same_alphabet : List ℕ → List ℕ → Bool
same_alphabet a b = eqb (length a) (length b) && every (length a) (λ f. eqb (terminal_rank a f) (terminal_rank b f))

-- the refusals of a form, given with an alphabet: 18 reads the form alone, and 28 says that the alphabet is not the head's (02 R-5)
unfoldable pub form_refusal : List ℕ → List ℕ → ℕ
form_refusal alphabet form = first (
    18 when (not (valid_form form))
    ∷ 28 when (not (same_alphabet alphabet (head_alphabet form)))
    ∷ [])

-- How a form is written.

-- the bytes of a rule: kind, terminal, hole, 00 and four slots; those past the list are not used (01 One-hole form)
abbrev pub bytes_with : ℕ → ℕ → ℕ → List ℕ → List ℕ
bytes_with kind terminal hole slots =
    kind ∷ terminal ∷ hole ∷ 0
    ∷ (word_bytes (get_or slots 0 unused) ++ (word_bytes (get_or slots 1 unused) ++ (word_bytes (get_or slots 2 unused) ++ word_bytes (get_or slots 3 unused))))

-- what is written of a rule: kind, terminal, hole and slots (01 One-hole form)
pub record RuleFields : Type 0 where
  pub kind : ℕ
  pub terminal : ℕ
  pub hole : ℕ
  pub slots : List ℕ

-- these fields, for each kind; an unused terminal is FF, an unused hole 00 (01 One-hole form)
abbrev pub fields_of : Rule → RuleFields
fields_of (whole f slots) = record { kind = 0; terminal = f; hole = 0; slots = slots }
fields_of (pierced f ls rs) = record { kind = 1; terminal = f; hole = suc (length ls); slots = ls ++ (unused ∷ rs) }
fields_of (filled b c) = record { kind = 2; terminal = 0xFF; hole = 0; slots = b ∷ c ∷ [] }
fields_of (composed b c) = record { kind = 3; terminal = 0xFF; hole = 0; slots = b ∷ c ∷ [] }

-- the bytes of a rule (01 One-hole form)
abbrev pub rule_bytes : Rule → List ℕ
rule_bytes r = bytes_with (fields_of r).kind (fields_of r).terminal (fields_of r).hole (fields_of r).slots

-- the bytes of rules, one after another (01 One-hole form)
unfoldable pub rules_bytes : List Rule → List ℕ
rules_bytes [] = []
rules_bytes (r ∷ rules) = rule_bytes r ++ rules_bytes rules

-- the bytes of a head before its ranks: how many rules there are, the start, and how many terminals there are (02 R-5)
abbrev pub head_front : ℕ → ℕ → ℕ → List ℕ
head_front count start terminals = word_bytes count ++ (word_bytes start ++ (terminals ∷ []))

-- the bytes of a head: these, and the rank of each terminal (02 R-5)
abbrev pub head_bytes : List ℕ → ℕ → ℕ → List ℕ
head_bytes alphabet count start = head_front count start (length alphabet) ++ alphabet

-- the bytes of a form over an alphabet: its head and its rules (01 One-hole form, 02 R-5)
unfoldable pub form_bytes : List ℕ → List Rule → ℕ → List ℕ
form_bytes alphabet rules start = head_bytes alphabet (length rules) start ++ rules_bytes rules
