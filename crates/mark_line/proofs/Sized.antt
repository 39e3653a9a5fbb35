-- The size of a sheet's tree by the form at the beginning of a slice.
use mathlib.Core.Path.{◌≡◌, refl, sym, ap, ap₂, ◌∙◌}
use mathlib.Core.Bool.{Bool, true, false, cond}
use mathlib.Core.List.{List}
use Prim.Native.Nat.{ℕ, ◌+◌, ◌*◌, ◌-◌, ◌≤◌}
use native.Mathlib.Omega.{arith}
use borrow.Author.Tests.{ltb-true, ltb-false}
use lib.Dec.{ltb}
use lib.ListN.{length, take, drop}
use lib.Seq.{get_or-take, length-take-le}
use Rattle.terms.specs.Bytes.{word}
use Rattle.terms.specs.Sheet.{body_offset, alphabet_of, sheet_tree}
use Rattle.terms.specs.FormBytes.{ranks_offset, head_length, form_length, rule_count, terminal_count, form_tree}
use Rattle.terms.specs.Count.{size_of, largest, capped, Size, exact, over, size_answer}
use Rattle.terms.specs.Calls.{most_asked, counts_per_rule, size_refusal, unfolding_refusal}
use Rattle.terms.proofs.Demand.{form_meets}
use Rattle.terms.proofs.Refusal.{none_before}
use Rattle.terms.proofs.Form.Bytes.{form_passed}
use Rattle.terms.proofs.Sheet.Bodies.{joined}
use Rattle.terms.proofs.Sheet.Passed.{sheet_passed}
use Rattle.terms.specs.Answer.{Answer, refused, answered, answer}
use Rattle.terms.proofs.Sheet.Asked.{just_enough}
use Rattle.std.proofs.Common.{Ok, Err}
use Rattle.terms.specs.declared.refusals.Refusal.{Refusal}
use Rattle.sizing.specs.declared.answer.Size.{Size as Code·Size}
use Rattle.sizing.specs.declared.answer.Size.TheVariants as sizes
use Rattle.sizing.specs.Size.{answer_of_size}
use Rattle.sizing.specs.Size.{number_of_size}
use Rattle.mark_line.specs.Private.MarkedForm.{MarkedForm}

-- what size says of a form, with so many numbers lent
abbrev size_said : List ℕ → List ℕ → ℕ → Answer Size
size_said alphabet form numbers = answer (size_refusal alphabet form numbers) (size_answer (size_of (form_tree alphabet form)))

-- where alphabet and form lie
pub record Parts (sheet form : List ℕ) : Type 0 where
  pub long : 12 ≤ length sheet
  pub first : 12 ≤ body_offset sheet 1
  pub last : body_offset sheet 1 ≤ length sheet
  pub alphabet : take (body_offset sheet 1 - 12) (drop 12 sheet) ≡ alphabet_of sheet
  pub head : head_length (terminal_count form) ≤ length form
  pub end : form_length (terminal_count form) (rule_count form) ≤ length form
  pub call : size_said (alphabet_of sheet) (take (form_length (terminal_count form) (rule_count form)) form) (counts_per_rule * most_asked) ≡ answered (size_answer (size_of (sheet_tree sheet)))

-- the counts in the head of a form's first bytes
module _ (n : ℕ) (form : List ℕ) (h : ranks_offset ≤ n) where
  rules-taken : rule_count (take n form) ≡ rule_count form
  unfolding word
  rules-taken = ap₂ (λ (a b : ℕ). a + 256 * b) (get_or-take n form 0 0 (omega arith)) (get_or-take n form 1 0 (omega arith))

  terminals_taken : terminal_count (take n form) ≡ terminal_count form
  terminals_taken = get_or-take n form 4 0 (omega arith)

pub parts : (sheet form : List ℕ) → MarkedForm sheet form → Parts sheet form
unfolding unfolding_refusal
parts sheet form m =
    let passed = sheet_passed sheet m.passes in
    let bodies = joined sheet passed.joined in
    let n = m.written in
    let here = form_passed (alphabet_of sheet) (take n form) m.formed.valid in
    let all : length (take n form) ≡ n = length-take-le n form m.within in
    let head : ranks_offset ≤ n = omega (arith, here.long) in
    let end : form_length (terminal_count form) (rule_count form) ≡ n = omega (arith, here.long, rules-taken n form head, terminals_taken n form head, all) in
    let demand = form_meets sheet m.passes (take n form) m.formed in
    let none = (none_before (size_refusal (alphabet_of sheet) (take n form) (counts_per_rule * most_asked)) _ (demand.unfolded (counts_per_rule * most_asked) (size_of (sheet_tree sheet)) (omega (arith, m.formed.few, (just_enough sheet m.passes).most)) (omega arith))).0 in
    record {
      long = passed.long;
      first = bodies.after_contents;
      last = omega (arith, bodies.after-alphabet, bodies.after-rules);
      alphabet = sym bodies.alphabet;
      head = omega (arith, end, m.within);
      end = omega (arith, end, m.within);
      call = rw (end, none, m.formed.tree) refl;
    }

-- what size answers, for what the call was given
pub size_told : (sheet form : List ℕ) → Parts sheet form → (rules end numbers : ℕ) (r : Answer Size) → rules ≡ body_offset sheet 1 → end ≡ form_length (terminal_count form) (rule_count form) → numbers ≡ counts_per_rule * most_asked
    → r ≡ size_said (take (rules - 12) (drop 12 sheet)) (take end form) numbers → r ≡ answered (size_answer (size_of (sheet_tree sheet)))
size_told sheet form p rules end numbers r here there many call =
    let said = rw (here, there, many, p.alphabet, p.call) at call in
    said

-- it is no refusal
pub not_refused : (refusal : Refusal) (size : Size) → answer_of_size (Err refusal) ≡ answered size → ⊥
not_refused refusal size h = let z : ◌≡◌ {A = ℕ} 0 1 = cc in omega arith

-- an answer of size as a number
abbrev number_told : Answer Size → ℕ
number_told (refused n) = 0
number_told (answered (exact n)) = n
number_told (answered over) = largest

capped-number : (n : ℕ) → number_told (answered (size_answer n)) ≡ capped n
unfolding size_answer
capped-number n = go (ltb n largest) refl
  where
    go : (b : Bool) → ltb n largest ≡ b → number_told (answered (cond b (exact n) over)) ≡ capped n
    go true e = omega (arith, ltb-true n largest e)
    go false e = omega (arith, ltb-false n largest e)

pub size_is : (n : ℕ) (size : Code·Size) → answer_of_size (Ok size) ≡ answered (size_answer n) → number_of_size size ≡ capped n
size_is n (sizes.Exact m) h = ap number_told h ∙ capped-number n
size_is n sizes.Over h = ap number_told h ∙ capped-number n
