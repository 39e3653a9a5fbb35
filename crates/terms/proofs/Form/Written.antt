-- How a form is written: where each byte stands, that these bytes are the only ones, and that a valid form is read as its rules.
use mathlib.Core.Path.{◌≡◌, refl, sym, ap, ◌∙◌}
use mathlib.Core.List.{List, [], ◌∷◌, ◌++◌}
use Prim.Native.Nat.{ℕ, zero, suc, ◌+◌, ◌*◌, ◌-◌, ◌/◌, ◌%◌, ◌≤◌, ◌<◌}
use native.Mathlib.Omega.{arith}
use native.Mathlib.Decide.{dec_lt}
use lib.ListN.{length, get_or, length-append, get_or-append}
use lib.Seq.{ext_get_or, get_or-drop, get_or-append-add, take-append_seam, drop_at}
use Rattle.terms.specs.Bytes.{word}
use Rattle.terms.specs.Check.{alphabet_refusal}
use Rattle.terms.specs.Form.{Rule, whole, pierced, filled, composed, rule_at, Has, Slots, Fits, Valid}
use Rattle.terms.specs.FormBytes.{head_length, rule_length, form_length, rule_count, start_of, head_alphabet, behind_head, table_of, rule_byte, unused, most_form_rules, bytes_with, fields_of, rule_bytes, rules_bytes, head_bytes, form_bytes}
use Rattle.terms.proofs.Sheet.Write.{word_back}
use Rattle.terms.proofs.Form.Fields.{Fields, Says, Head, FormRead, form-read}

-- where the bytes stand

length-rule : (r : Rule) → length (rule_bytes r) ≡ rule_length
length-rule r = refl

length-rules : (rules : List Rule) → length (rules_bytes rules) ≡ rule_length * length rules
unfolding rules_bytes
length-rules [] = refl
length-rules (r ∷ rules) = omega (arith, length-append (rule_bytes r) (rules_bytes rules), length-rule r, length-rules rules)

rules_at : (rules : List Rule) (i k : ℕ) → i < length rules → k < rule_length → get_or (rules_bytes rules) (rule_length * i + k) 0 ≡ get_or (rule_bytes (rule_at rules i)) k 0
unfolding rules_bytes
rules_at [] i k h l = absurd (omega arith)
rules_at (r ∷ rules) zero k h l =
    let e : rule_length * 0 + k ≡ k = omega arith in
    rw e (get_or-append (rule_bytes r) (rules_bytes rules) 0 k (omega (arith, length-rule r)))
rules_at (r ∷ rules) (suc i) k h l =
    let e : rule_length * suc i + k ≡ length (rule_bytes r) + (rule_length * i + k) = omega (arith, length-rule r) in
    rw e (get_or-append-add (rule_bytes r) (rules_bytes rules) (rule_length * i + k) 0 ∙ rules_at rules i k (omega arith) l)

-- a byte behind a head is one of the table's
behind-head : (form : List ℕ) (terminals i k : ℕ) → get_or form (head_length terminals + (rule_length * i + k)) 0 ≡ rule_byte (behind_head terminals form) i k
behind-head form terminals i k = sym (get_or-drop (head_length terminals) form (rule_length * i + k) 0)

module _ (alphabet : List ℕ) (rules : List Rule) (start : ℕ) where
  abbrev bytes : List ℕ
  bytes = form_bytes alphabet rules start

  abbrev head : List ℕ
  head = head_bytes alphabet (length rules) start

  abbrev table : List ℕ
  table = behind_head (length alphabet) bytes

  -- the table is what stands behind the head
  table_is : table ≡ rules_bytes rules
  unfolding form_bytes
  table_is = drop_at head (rules_bytes rules) (head_length (length alphabet)) (omega arith)

  length-form : length bytes ≡ form_length (length alphabet) (length rules)
  unfolding form_bytes
  length-form = omega (arith, length-append head (rules_bytes rules), length-rules rules)

  head_at : (k : ℕ) → k < head_length (length alphabet) → get_or bytes k 0 ≡ get_or head k 0
  unfolding form_bytes
  head_at k h = get_or-append head (rules_bytes rules) 0 k (omega arith)

  rule_at_lem : (i k : ℕ) → i < length rules → k < rule_length → rule_byte table i k ≡ get_or (rule_bytes (rule_at rules i)) k 0
  rule_at_lem i k h l = ap (λ table. rule_byte table i k) table_is ∙ rules_at rules i k h l

  -- no other bytes have the head and the rules in their places
  module _ (form : List ℕ) (long : length form ≡ form_length (length alphabet) (length rules)) (begins : (k : ℕ) → k < head_length (length alphabet) → get_or form k 0 ≡ get_or head k 0)
      (each : (i k : ℕ) → i < length rules → k < rule_length → rule_byte (behind_head (length alphabet) form) i k ≡ get_or (rule_bytes (rule_at rules i)) k 0) where
    same : (k : ℕ) → k < length form → Dec (k < head_length (length alphabet)) → get_or form k 0 ≡ get_or bytes k 0
    same k h (yes l) = begins k l ∙ sym (head_at k l)
    same k h (no l) =
        let t = length alphabet in
        let i = (k - head_length t) / rule_length in
        let m = (k - head_length t) % rule_length in
        let e : k ≡ head_length t + (rule_length * i + m) = omega arith in
        rw e (behind-head form t i m ∙ each i m (omega arith) (omega arith) ∙ sym (behind-head bytes t i m ∙ rule_at_lem i m (omega arith) (omega arith)))

    pub only_bytes : form ≡ bytes
    only_bytes = ext_get_or 0 form bytes (long ∙ sym length-form) (λ k h. same k h (dec_lt k (head_length (length alphabet))))

-- numbers of two bytes

word_of : (bytes : List ℕ) (i n : ℕ) → n < 65536 → get_or bytes i 0 ≡ n % 256 → get_or bytes (i + 1) 0 ≡ n / 256 % 256 → word bytes i ≡ n
unfolding word
word_of bytes i n h lo hi = rw (lo, hi) (word_back n h)

module _ (table : List ℕ) (i kind f h : ℕ) (slots : List ℕ) (narrow : (j : ℕ) → get_or slots j unused < 65536)
    (each : (k : ℕ) → k < rule_length → rule_byte table i k ≡ get_or (bytes_with kind f h slots) k 0) where
  slot_read : (k j : ℕ) → k + 1 < rule_length → get_or (bytes_with kind f h slots) k 0 ≡ get_or slots j unused % 256 → get_or (bytes_with kind f h slots) (k + 1) 0 ≡ get_or slots j unused / 256 % 256
      → word table (rule_length * i + k) ≡ get_or slots j unused
  slot_read k j l lo hi =
      let e : rule_length * i + k + 1 ≡ rule_length * i + (k + 1) = omega arith in
      word_of table (rule_length * i + k) (get_or slots j unused) (narrow j) (each k (omega arith) ∙ lo) (rw e (each (k + 1) l ∙ hi))

  slots_read : (j : ℕ) → j < 4 → word table (rule_length * i + (4 + 2 * j)) ≡ get_or slots j unused
  slots_read zero l = slot_read 4 0 (omega arith) refl refl
  slots_read (suc zero) l = slot_read 6 1 (omega arith) refl refl
  slots_read (suc (suc zero)) l = slot_read 8 2 (omega arith) refl refl
  slots_read (suc (suc (suc zero))) l = slot_read 10 3 (omega arith) refl refl
  slots_read (suc (suc (suc (suc j)))) l = absurd (omega arith)

  fields_read : Fields table i kind f h slots
  fields_read = record {
    kind = each 0 (omega arith);
    terminal = each 1 (omega arith);
    hole = each 2 (omega arith);
    fourth = each 3 (omega arith);
    slot = slots_read;
  }

-- the slots of a rule that fits are numbers of two bytes
module _ (rules : List Rule) (n : ℕ) (few : n ≤ most_form_rules) where
  has_narrow : {k a : ℕ} → Has rules n k a → a < 65536
  has_narrow p = omega (arith, p.below)

  slots_narrow : (slots : List ℕ) → Slots rules n slots → (j : ℕ) → get_or slots j unused < 65536
  slots_narrow [] p j = omega arith
  slots_narrow (a ∷ slots) p zero = has_narrow p.0
  slots_narrow (a ∷ slots) p (suc j) = slots_narrow slots p.1 j

  pierced_narrow : (ls rs : List ℕ) → Slots rules n ls → Slots rules n rs → (j : ℕ) → get_or (ls ++ (unused ∷ rs)) j unused < 65536
  pierced_narrow [] rs p q zero = omega arith
  pierced_narrow [] rs p q (suc j) = slots_narrow rs q j
  pierced_narrow (a ∷ ls) rs p q zero = has_narrow p.0
  pierced_narrow (a ∷ ls) rs p q (suc j) = pierced_narrow ls rs p.1 q j

  chain_narrow : {k l : ℕ} (b c : ℕ) → Has rules n k b → Has rules n l c → (j : ℕ) → get_or (b ∷ c ∷ []) j unused < 65536
  chain_narrow b c p q zero = has_narrow p
  chain_narrow b c p q (suc zero) = has_narrow q
  chain_narrow b c p q (suc (suc j)) = omega arith

  fields_narrow : (alphabet : List ℕ) (r : Rule) → Fits alphabet rules n r → (j : ℕ) → get_or (fields_of r).slots j unused < 65536
  fields_narrow alphabet (whole f slots) p j = slots_narrow slots p.0 j
  fields_narrow alphabet (pierced f ls rs) p j = pierced_narrow ls rs p.0 p.1 j
  fields_narrow alphabet (filled b c) p j = chain_narrow b c p.0 p.1 j
  fields_narrow alphabet (composed b c) p j = chain_narrow b c p.0 p.1 j

  rule-says : (alphabet table : List ℕ) (i : ℕ) (r : Rule) → Fits alphabet rules n r → ((k : ℕ) → k < rule_length → rule_byte table i k ≡ get_or (rule_bytes r) k 0) → Says table i r
  rule-says alphabet table i r p each =
      fields_read table i (fields_of r).kind (fields_of r).terminal (fields_of r).hole (fields_of r).slots (fields_narrow alphabet r p) each

-- the bytes of a valid form are accepted and read as its rules
module _ (alphabet : List ℕ) (rules : List Rule) (start : ℕ) (few : length rules ≤ most_form_rules) where
  abbrev form : List ℕ
  form = form_bytes alphabet rules start

  pub counted : rule_count form ≡ length rules
  counted = word_of form 0 (length rules) (omega arith) (head_at alphabet rules start 0 (omega arith)) (head_at alphabet rules start 1 (omega arith))

  begun : start < 65536 → start_of form ≡ start
  begun h = word_of form 2 start h (head_at alphabet rules start 2 (omega arith)) (head_at alphabet rules start 3 (omega arith))

  carried : head_alphabet form ≡ alphabet
  unfolding form_bytes
  carried = take-append_seam alphabet (rules_bytes rules)

  head_read : start < 65536 → Head alphabet form rules start
  unfolding form_bytes
  head_read h = record { counted = counted; begun = begun h; carried = carried; long = length-form alphabet rules start }

  pub written-form : alphabet_refusal alphabet ≡ 0 → Valid alphabet rules → Has rules (length rules) 0 start → FormRead alphabet form rules start
  unfolding form_bytes
  written-form a v from =
      form-read alphabet form rules start a v
      (λ i h. rule-says rules i (omega arith) alphabet (table_of form) i (rule_at rules i) (v.fits i h) (λ k l. rule_at_lem alphabet rules start i k h l))
      (head_read (omega (arith, from.below))) few from
