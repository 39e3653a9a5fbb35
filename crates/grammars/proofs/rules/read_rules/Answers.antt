-- `grammars::rules::read_rules` meets its contract: each answer is the first row of the table that holds, from 5 to 13, by the tests that led there.
use mathlib.Core.Path.{◌≡◌, sym, ◌∙◌}
use borrow.Author.Tests.{lt-ltb, le-ltb, eq-eqb, ne_eqb}
use Rattle.std.proofs.Common.{Some}
use Rattle.std.proofs.lemmas.Result.{err_from_is_err_and}
use Rattle.terms.specs.declared.refusals.Refusal.TheVariants.{RulesEnd}
use Rattle.terms.specs.Sheet.{rules_body}
use Rattle.grammars.specs.Rules.{body_counts}
use Rattle.grammars.proofs.Reading.{not-counted, table}
use Rattle.grammars.proofs.rules.read_rules.Goals as goal
use Rattle.grammars.proofs.rules.read_rules.Goals.{In_ok-rules}

counted : (c : In_ok-rules) → Some c.in_ok-rules.field-0 ≡ body_counts (rules_body c.args.body.now)
counted c = sym c.in_ok-rules.ensures.ok_part ∙ c.count_rules.ensures

pub returns-in_err-rules : goal.returns-in_err-rules
returns-in_err-rules c =
    let p = err_from_is_err_and c.from_residual.result c.from_residual.ensures.1 in
    let none = c.in_err-rules.ensures.ok_part in
    let refusal : c.in_err-rules.field-0.0 ≡ RulesEnd = (let e = rw none at c.in_err-rules.ensures.value in cc) in
    rw (p.1, p.2, refusal, not-counted _ _ (sym none ∙ c.count_rules.ensures))

pub returns-then-rules-eq0 : goal.returns-then-rules-eq0
returns-then-rules-eq0 c = rw (table _ (counted (goal.at.returns-then-rules-eq0 c).In_ok-rules) _, eq-eqb _ _ c.if-rules-eq0.true)

pub returns-then-rules-gt-MOST_RULES : goal.returns-then-rules-gt-MOST_RULES
returns-then-rules-gt-MOST_RULES c = rw (table _ (counted (goal.at.returns-then-rules-gt-MOST_RULES c).In_ok-rules) _, ne_eqb _ _ c.if-rules-eq0.false, lt-ltb _ _ c.if-rules-gt-MOST_RULES.true)

pub returns-then-nodes-gt-MOST_NODES : goal.returns-then-nodes-gt-MOST_NODES
returns-then-nodes-gt-MOST_NODES c =
    rw (table _ (counted (goal.at.returns-then-nodes-gt-MOST_NODES c).In_ok-rules) _, ne_eqb _ _ c.if-rules-eq0.false, le-ltb _ _ c.if-rules-gt-MOST_RULES.false, lt-ltb _ _ c.if-nodes-gt-MOST_NODES.true)

-- past the limits each rule and the start decide
pub returns : goal.returns
returns c =
    rw (table _ (counted (goal.at.returns c).In_ok-rules) _, ne_eqb _ _ c.if-rules-eq0.false, le-ltb _ _ c.if-rules-gt-MOST_RULES.false, le-ltb _ _ c.if-nodes-gt-MOST_NODES.false)
    c.check_rules.ensures
