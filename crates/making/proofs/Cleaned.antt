-- A form of the cleaned grammar is a form of the grammar as written, and the rules body of the cleaned grammar is one that a form can be made of.
use mathlib.Core.Path.{◌≡◌, ◌∙◌, ap, sym}
use mathlib.Core.Bool.{true}
use mathlib.Core.List.{List}
use Prim.Native.Nat.{ℕ, ◌≤◌}
use native.Mathlib.Omega.{arith}
use Rattle.terms.specs.Grammar.{Rule, node_count, Proper}
use Rattle.terms.specs.Sheet.{RulesBody, rules_body, written_rules}
use Rattle.terms.specs.Check.{alphabet_refusal, most_nodes}
use Rattle.terms.proofs.Sheet.Rules.{rules-read}
use Rattle.skeletons.specs.Form.{made_form}
use Rattle.skeletons.proofs.Bytes.{made_bytes}
use Rattle.cleaning_terms.specs.Cleaning.{cleaned}
use Rattle.cleaning_terms.proofs.Bound.{cleaned_node_count, cleaned-bound}
use Rattle.cleaning_terms.proofs.Proper.{cleaned-proper}
use Rattle.cleaning_terms.proofs.Same.{cleaned-same, strict-clean}
use Rattle.cleaning_terms.proofs.Sifted.{cleaned-length}
use Rattle.cleaning_terms.proofs.Value.{cleaned-derived}
use Rattle.rule_parameters.specs.Strict.{strict}
use Rattle.rule_parameters.proofs.StrictLaw.{strict-is}
use Rattle.right_sides.specs.Rules.{Grammar}
use Rattle.making.specs.Making.{FormHolds}
use Rattle.making.specs.Private.Read.{FormWritten}

cleaned-holds : (alphabet : List ℕ) (grammar : List Rule) → Proper alphabet grammar → {form : List ℕ} → FormHolds alphabet (cleaned alphabet grammar) form → FormHolds alphabet grammar form
cleaned-holds alphabet grammar p h = record {
  accepted = h.accepted;
  tree = h.tree ∙ cleaned-derived alphabet grammar p;
  few = omega (arith, h.few, cleaned-bound alphabet grammar);
  linear = omega (arith, h.linear, cleaned_node_count alphabet grammar);
}

-- what holds of the form that is made of a grammar
pub made_holds : (alphabet : List ℕ) (grammar : List Rule) → alphabet_refusal alphabet ≡ 0 → Proper alphabet grammar → node_count grammar ≤ most_nodes
    → FormHolds alphabet grammar (made_form alphabet (cleaned alphabet grammar))
made_holds alphabet grammar a p small =
    let m = made_bytes alphabet (cleaned alphabet grammar) a (cleaned-proper alphabet grammar p) (omega (arith, cleaned_node_count alphabet grammar)) in
    cleaned-holds alphabet grammar p (record { accepted = m.accepted; tree = m.tree; few = m.few; linear = m.linear })

module _ {table alphabet body : List ℕ} {count : ℕ} (g : Grammar table alphabet body count) where
  abbrev rules : List Rule
  rules = (rules_body body).rules

  abbrev clean : List Rule
  clean = cleaned alphabet rules

  -- where nothing is dropped, the form of the body is that of the cleaned rules
  pub strict-written : {n : ℕ} {exit entry : List ℕ} → strict rules ≡ true → FormWritten alphabet rules (made_form alphabet rules) n exit entry
      → FormWritten alphabet rules (made_form alphabet clean) n exit entry
  strict-written e w = rw (cleaned-same alphabet rules (strict-clean alphabet rules g.proper (strict-is alphabet rules g.proper e))) w

  -- the cleaned rules
  module _ {bytes : List ℕ} (written : bytes ≡ written_rules clean) where
    read : (rules_body bytes).rules ≡ clean
    read = ap (λ (b : RulesBody). b.rules) (ap rules_body written ∙ rules-read clean)

    pub clean-grammar : Grammar table alphabet bytes count
    clean-grammar = record {
      alphabet = g.alphabet;
      proper = rw read (cleaned-proper alphabet rules g.proper);
      count = rw read (g.count ∙ sym (cleaned-length alphabet rules));
      few = rw read (omega (arith, cleaned_node_count alphabet rules, g.few));
      room = rw read (omega (arith, cleaned-bound alphabet rules, g.room));
    }

    pub clean-written : {n : ℕ} {exit entry : List ℕ} → FormWritten alphabet (rules_body bytes).rules (made_form alphabet (rules_body bytes).rules) n exit entry
        → FormWritten alphabet rules (made_form alphabet clean) n exit entry
    clean-written w =
        let v = rw read at w in
        record { long = v.long; bytes = v.bytes; holds = cleaned-holds alphabet rules g.proper v.holds; within = v.within }
