-- `side_relations::side::node` meets its contract: a terminal steps, a call reads the table of its rule, and a parameter has its states.
use mathlib.Core.Path.{◌∙◌, ap}
use mathlib.Core.List.{List}
use Prim.Native.Nat.{ℕ}
use native.Mathlib.Omega.{arith}
use lib.ListN.{length-map}
use lib.Seq.{take_all}
use Rattle.terms.specs.Grammar.{terminal_rank}
use Rattle.terms.specs.Automaton.{step}
use Rattle.terms.specs.Sheet.{transitions_of}
use Rattle.blackboard_terms.specs.Step.{lane, lanes_at}
use Rattle.side_relations.proofs.side.node.Goals as goal

pub step_lanes-requires : goal.step_lanes-requires
step_lanes-requires c =
    let r = rw c.in-Terminal.is at c.requires in
    (r.0, omega (arith, r.1))

pub call_lanes-requires : goal.call_lanes-requires
call_lanes-requires c = rw c.in-Nonterminal.is at c.requires

pub parameter_relation-requires : goal.parameter_relation-requires
parameter_relation-requires c = (rw c.in-Parameter.is at c.requires).0

pub returns-in-Terminal : goal.returns-in-Terminal
returns-in-Terminal c p h =
    let l = c.args.linked.now in
    let f = c.in-Terminal.f.0 in
    let r = rw c.in-Terminal.is at c.requires in
    rw c.in-Terminal.is
    (c.step_lanes.ensures p (omega (arith, r.2))
    ∙ ap (λ (xs : List ℕ). step (transitions_of l.alphabet.now l.automaton.now) f (lanes_at p xs))
    (take_all (terminal_rank l.alphabet.now f) c.args.children.now (omega (arith, r.1))))

pub returns-in-Nonterminal : goal.returns-in-Nonterminal
returns-in-Nonterminal c p h =
    rw (c.in-Nonterminal.is, length-map c.args.children.now (λ x. lane x p)) (c.call_lanes.ensures p h)

pub returns-in-Parameter : goal.returns-in-Parameter
returns-in-Parameter c p h =
    let r = rw c.in-Parameter.is at c.requires in
    rw c.in-Parameter.is (c.parameter_relation.ensures p (omega (arith, r.1)))

pub returns-in-Nothing : goal.returns-in-Nothing
returns-in-Nothing c p h = absurd (rw c.in-Nothing.is at c.requires)
