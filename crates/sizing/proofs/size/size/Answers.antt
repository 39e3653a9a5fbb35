-- `sizing::size::size` meets its contract: the first count of the start is the size of the tree, capped.
use mathlib.Core.Path.{◌≡◌, sym, ◌∙◌, ap}
use lib.ListN.{length}
use Rattle.terms.specs.Answer.{answered}
use Rattle.terms.specs.FormBytes.{form_tree}
use Rattle.terms.specs.Count.{size_of, capped}
use Rattle.terms.specs.Calls.{lent_after, counts_of, size_refusal}
use Rattle.terms.proofs.InTurn.{answers_value}
use Rattle.counting.proofs.Counted.{own-known}
use Rattle.counting.proofs.Start.{opened-size, opened-counts}
use Rattle.sizing.proofs.Answers.{counted_table, counts-left, size-over, size-exact}
use Rattle.sizing.proofs.size.size.Goals as goal
use Rattle.sizing.proofs.size.size.Goals.{After-own_of-nodes}

-- the count of the start
nodes_are : (c : After-own_of-nodes) → c.own_of-nodes.result ≡ capped (size_of (form_tree c.args.alphabet.now c.args.form.now))
nodes_are c =
    let opened = c.in_ok-opened.opened in
    let known = counted_table opened.table.valid _ _ c.count_nodes.ensures in
    c.own_of-nodes.ensures ∙ own-known known _ opened.start_low ∙ ap capped (opened-size c.in_ok-opened.ensures.parts.0)

-- the counts that are left
left : (c : After-own_of-nodes) → let a = c.args in c.count_nodes.new.counts ≡ lent_after (size_refusal a.alphabet.now a.form.now (length a.counts.now)) (counts_of a.alphabet.now a.form.now) a.counts.now
left c =
    let a = c.args in
    let refusal = size_refusal a.alphabet.now a.form.now (length a.counts.now) in
    counts-left c.in_ok-opened.opened.table.valid refusal _ _ c.in_ok-opened.ensures.refusal c.count_nodes.ensures
    ∙ ap (λ counts. lent_after refusal counts a.counts.now) (opened-counts c.in_ok-opened.ensures.parts.0)

pub returns-then-nodes-clause-result_value : goal.returns-then-nodes-clause-result_value
returns-then-nodes-clause-result_value c =
    sym (answers_value _ _ c.in_ok-opened.ensures.refusal ∙ ap answered (size-over _ _ (nodes_are (goal.at.returns-then-nodes-clause-result_value c).After-own_of-nodes) c.if-nodes.true))

pub returns-then-nodes-clause-counts_after : goal.returns-then-nodes-clause-counts_after
returns-then-nodes-clause-counts_after c = left (goal.at.returns-then-nodes-clause-counts_after c).After-own_of-nodes

pub returns-clause-result_value : goal.returns-clause-result_value
returns-clause-result_value c =
    sym (answers_value _ _ c.in_ok-opened.ensures.refusal ∙ ap answered (size-exact _ _ (nodes_are (goal.at.returns-clause-result_value c).After-own_of-nodes) c.if-nodes.false))

pub returns-clause-counts_after : goal.returns-clause-counts_after
returns-clause-counts_after c = left (goal.at.returns-clause-counts_after c).After-own_of-nodes
