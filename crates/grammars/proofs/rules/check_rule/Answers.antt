use mathlib.Core.Path.{◌≡◌, refl, sym, ◌∙◌}
use mathlib.Core.Bool.{true}
use native.Mathlib.Omega.{arith}
use lib.ListN.{drop, length-drop}
use Rattle.terms.specs.Grammar.{allowed}
use Rattle.terms.specs.Check.{highest_rank}
use Rattle.terms.proofs.Grammar.Fine.{own-parameter}
use Rattle.nodes.specs.Nodes.{naming}
use Rattle.grammars.proofs.List.{all_zero}
use Rattle.nodes.proofs.Node.{few_trees, few-times}
use Rattle.grammars.proofs.Rule.{high_refused, none-scanned, unknown-refused, node-scanned, all-scanned}
use Rattle.grammars.proofs.rules.check_rule.Goals as goal

pub returns-then-rank-gt-HIGHEST_RANK-clause-answer : goal.returns-then-rank-gt-HIGHEST_RANK-clause-answer
returns-then-rank-gt-HIGHEST_RANK-clause-answer c = sym (high_refused _ _ _ _ _ (omega arith) c.if-rank-gt-HIGHEST_RANK.true)

pub loop-left-init : goal.loop-left-init
loop-left-init c = none-scanned (omega arith) (all_zero highest_rank) refl

pub returns-then-not-allowed-clause-answer : goal.returns-then-not-allowed-clause-answer
returns-then-not-allowed-clause-answer c =
    sym (unknown-refused (omega arith) (omega arith) c.loop-left.invariant (omega arith) c.name_of-name.ensures (sym c.allowed.ensures ∙ c.if-not-allowed.true))

pub taking-behind-requires : goal.taking-behind-requires
taking-behind-requires c =
    let nodes = c.args.nodes.now in
    omega (arith, few_trees _ (drop c.loop-left.left nodes) c.loop-left.behind c.loop-left.invariant.trees, length-drop c.loop-left.left nodes)

pub count_parameter-requires : goal.count_parameter-requires
count_parameter-requires c =
    let fine : let a = c.args in allowed a.alphabet.now a.rule.0 a.rank (naming c.name_of-name.result) ≡ true = sym c.allowed.ensures ∙ c.if-not-allowed.false in
    let nodes = c.args.nodes.now in (
      (λ j p. omega (arith, own-parameter _ _ _ _ j fine p)),
      λ j. omega (arith, c.loop-left.invariant.counted j, few-times j (drop c.loop-left.left nodes), length-drop c.loop-left.left nodes),
    )

pub loop-left-preserved : goal.loop-left-preserved
loop-left-preserved c =
    node-scanned (omega arith) (omega arith) c.loop-left.invariant (omega arith) c.name_of-name.ensures (sym c.allowed.ensures ∙ c.if-not-allowed.false) c.name_rank-children.ensures
    c.taking-behind.ensures c.count_parameter.ensures c.share-takes.ensures.share c.share-takes.ensures.small

pub returns-then-not-is_one-clause-answer : goal.returns-then-not-is_one-clause-answer
returns-then-not-is_one-clause-answer c = rw c.if-not-is_one.true at (sym (all-scanned (omega arith) (omega arith) c.loop-left.invariant (omega arith) c.is_one.ensures refl))

pub returns-then-not-each_at_most_once-clause-answer : goal.returns-then-not-each_at_most_once-clause-answer
returns-then-not-each_at_most_once-clause-answer c =
    rw (c.if-not-is_one.false, c.if-not-each_at_most_once.true) at
    (sym (all-scanned (omega arith) (omega arith) c.loop-left.invariant (omega arith) c.is_one.ensures c.each_at_most_once.ensures))

pub returns-clause-answer : goal.returns-clause-answer
returns-clause-answer c =
    rw (c.if-not-is_one.false, c.if-not-each_at_most_once.false) at
    (sym (all-scanned (omega arith) (omega arith) c.loop-left.invariant (omega arith) c.is_one.ensures c.each_at_most_once.ensures))
