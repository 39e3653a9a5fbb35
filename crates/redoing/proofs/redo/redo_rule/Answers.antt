-- `redoing::redo::redo_rule` meets its contract: where the rule depends on the terminal, the range that is written again is of its entry alone.
use mathlib.Core.Path.{◌≡◌, refl, ap, ◌∙◌}
use native.Mathlib.Omega.{arith}
use Prim.Native.Nat.{◌+◌}
use Rattle.form_bytes.specs.declared.rule.FormRule.{FormRule}
use Rattle.form_bytes.specs.Fields.{fields_at}
use Rattle.entries.proofs.Entries.{one_written, none_left}
use Rattle.redoing.specs.Redoing.{depends_by}
use Rattle.redoing.proofs.redo.redo_rule.Goals as goal

pub returns-then-depends-clause-relations_after : goal.returns-then-depends-clause-relations_after
returns-then-depends-clause-relations_after c =
    let a = c.args in
    let it = a.evaluator.now in
    let test_is : c.depends.result ≡ depends_by (fields_at it.table.bytes.now a.number.0) a.dependent.now a.terminal.0 =
    c.depends.ensures ∙ ap (λ (r : FormRule). depends_by r a.dependent.now a.terminal.0) c.rule_at-rule.ensures in
    let i = a.number.0 in
    let one = one_written it.table.alphabet.now it.linked.automaton.now it.table.bytes.now i (i + 1) a.relations.now (omega arith) _ refl in
    let none = none_left it.table.alphabet.now it.linked.automaton.now it.table.bytes.now (i + 1) (i + 1) _ (omega arith) in
    rw (← test_is, c.if-depends.true) (c.write_entries.ensures ∙ one ∙ none)
