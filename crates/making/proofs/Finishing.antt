-- The rules in the table and the head are the bytes that the model makes of the grammar, and the later bytes are kept.
use mathlib.Core.Path.{◌≡◌, sym, ap, ◌∙◌}
use mathlib.Core.List.{List, ◌++◌, append-nil}
use Prim.Native.Nat.{ℕ, ◌+◌, ◌*◌, ◌-◌, ◌≤◌, ◌<◌}
use native.Mathlib.Omega.{arith}
use lib.ListN.{length, get_or, take, drop, length-append, length-drop, take-append-drop, drop_of_length-le}
use lib.Seq.{length-take-le, take_all, drop_at, get_or-take, get_or-drop, ext_get_or}
use Rattle.terms.specs.Grammar.{Rule}
use Rattle.terms.specs.Check.{most_terminals}
use Rattle.terms.specs.Form.{Rule as FormRule}
use Rattle.terms.specs.FormBytes.{head_length, rule_length, form_length, behind_head, head_bytes}
use Rattle.terms.specs.Sheet.{rules_body}
use Rattle.terms.proofs.Sheet.Passed.{alphabet_passed}
use Rattle.terms.proofs.Form.Written.{only_bytes}
use Rattle.skeletons.specs.Form.{made_form}
use Rattle.skeletons.proofs.Result.{scanned-form}
use Rattle.skeletons.proofs.Bytes.{made-from, made_bytes}
use Rattle.form_writing.specs.Bytes.{Holds, HeadWritten}
use Rattle.right_sides.specs.Rules.{Grammar, model_of, RulesMade}
use Rattle.making.specs.Private.Read.{FormWritten}
use Rattle.right_sides.specs.declared.rules.Whole.{Whole}
use Rattle.form_writing.proofs.Held.{held_kept}

-- a form of which the part behind the head is another table
abbrev with_table : ℕ → List ℕ → List ℕ → List ℕ
with_table head form table = take head form ++ (table ++ drop (length form - head) (drop head form))

module _ (head : ℕ) (form : List ℕ) where
  -- what stands behind the head is all that is taken from there
  pub table_part : take (length form - head) (drop head form) ≡ drop head form
  table_part = take_all (length form - head) (drop head form) (omega (arith, length-drop head form))

  module _ (table : List ℕ) (head-room : head ≤ length form) (long : length table ≡ length (drop head form)) where
    nothing-behind : table ++ drop (length form - head) (drop head form) ≡ table
    nothing-behind =
        let short : length (drop head form) ≤ length form - head = omega (arith, length-drop head form) in
        rw (drop_of_length-le (drop head form) short) (append-nil table)

    new_table : drop head (with_table head form table) ≡ table
    new_table = drop_at (take head form) _ head (length-take-le head form head-room) ∙ nothing-behind

    same-long : length (with_table head form table) ≡ length form
    same-long =
        omega (arith, length-append (take head form) (table ++ drop (length form - head) (drop head form)), ap length nothing-behind, length-take-le head form head-room, length-drop head form)

module _ (form : List ℕ) {alphabet body : List ℕ} {count : ℕ} (head-room : head_length (length alphabet) ≤ length form) (g : Grammar (behind_head (length alphabet) form) alphabet body count) {table : List ℕ} {w : Whole}
    (m : RulesMade (behind_head (length alphabet) form) alphabet body table w) where
  -- how many bytes the head has
  abbrev head : ℕ
  head = head_length (length alphabet)

  abbrev grammar : List Rule
  grammar = (rules_body body).rules

  abbrev rules : List FormRule
  rules = (model_of alphabet grammar).rules

  abbrev form₁ : List ℕ
  form₁ = with_table head form table

  -- the rules fit the slice
  fits : form_length (length alphabet) (length rules) ≤ length form
  fits = omega (arith, (scanned-form alphabet grammar g.proper).2.few, g.room, length-drop head form)

  pub head-fits : (head ≤ length form₁) × (length alphabet ≤ most_terminals)
  head-fits = (omega (arith, same-long head form table head-room m.long, head-room), (alphabet_passed alphabet g.alphabet).few)

  module _ {form₂ : List ℕ} (h : HeadWritten alphabet w.count.0 w.start.0 form₂ form₁) where
    abbrev n : ℕ
    n = form_length (length alphabet) (length rules)

    long₂ : length form₂ ≡ length form
    long₂ = h.kept.long ∙ same-long head form table head-room m.long

    front : (k : ℕ) → k < n → get_or (take n form₂) k 0 ≡ get_or form₂ k 0
    front k l = get_or-take n form₂ k 0 l

    -- a byte behind the head is one of the table
    table_byte_lem : (k : ℕ) → get_or form₂ (head + k) 0 ≡ get_or table k 0
    table_byte_lem k = h.kept.behind (head + k) (omega arith) ∙ sym (get_or-drop head form₁ k 0) ∙ ap (λ (l : List ℕ). get_or l k 0) (new_table head form table head-room m.long)

    held : Holds (drop head (take n form₂)) rules
    held = held_kept (drop head (take n form₂)) table rules m.held (λ k b. get_or-drop head (take n form₂) k 0 ∙ front (head + k) (omega arith) ∙ table_byte_lem k)

    head_bytes_lem : (k : ℕ) → k < head → get_or (take n form₂) k 0 ≡ get_or (head_bytes alphabet (length rules) w.start.0) k 0
    head_bytes_lem k l = front k (omega arith) ∙ h.bytes k l ∙ ap (λ c. get_or (head_bytes alphabet c w.start.0) k 0) m.counted

    bytes : take n form₂ ≡ made_form alphabet grammar
    bytes =
        only_bytes alphabet rules w.start.0 (take n form₂) (length-take-le n form₂ (omega (arith, long₂, fits))) head_bytes_lem held.bytes
        ∙ sym (made-from alphabet grammar w.start.0 m.begun)

    behind : (k : ℕ) → get_or form₂ (n + k) 0 ≡ get_or form (n + k) 0
    behind k =
        let j = rule_length * length rules + k in
        let e : n + k ≡ head + j = omega arith in
        rw e (table_byte_lem j ∙ m.behind j (omega (arith, m.counted)) ∙ get_or-drop head form j 0)

    kept : drop n form₂ ≡ drop n form
    kept =
        ext_get_or 0 (drop n form₂) (drop n form) (length-drop n form₂ ∙ rw long₂ (sym (length-drop n form)))
        (λ k l. get_or-drop n form₂ k 0 ∙ behind k ∙ sym (get_or-drop n form k 0))

    pub form-written : FormWritten alphabet grammar (made_form alphabet grammar) (form_length (length alphabet) w.count.0) form₂ form
    form-written =
        let b = made_bytes alphabet grammar g.alphabet g.proper g.few in
        let long : n ≡ length (made_form alphabet grammar) = sym (length-take-le n form₂ (omega (arith, long₂, fits))) ∙ ap length bytes in
        rw m.counted
        record {
          long = long;
          bytes = sym (take-append-drop n form₂) ∙ rw (bytes, kept, ← long);
          holds = record { accepted = b.accepted; tree = b.tree; few = b.few; linear = b.linear };
          within = fits;
        }
