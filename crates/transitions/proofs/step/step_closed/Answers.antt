-- `transitions::step::step_closed` meets its contract: the walk with no hole finds the pairs of state 0 and each state of the node.
use mathlib.Core.Path.{ap, sym, ◌∙◌}
use Prim.Native.Nat.{ℕ, ◌%◌}
use native.Mathlib.Omega.{arith}
use lib.ListN.{take}
use Rattle.terms.specs.Grammar.{terminal_rank}
use Rattle.transitions.specs.Step.{pairs_of}
use Rattle.transitions.proofs.Checked.{rank_few, as_many, usable-of}
use Rattle.transitions.proofs.Node.{closed-step}
use Rattle.transitions.proofs.step.step_closed.Goals as goal

pub shared_ref_as_front-walk : goal.shared_ref_as_front-walk
shared_ref_as_front-walk c =
    let l = c.args.linked.now in
    rank_few _ _ l.alphabet_passes l.automaton_passes c.args.terminal.0

pub returns : goal.returns
returns c =
    let l = c.args.linked.now in
    let a = l.automaton.now in
    let f = c.args.terminal.0 in
    let ms = take (terminal_rank l.alphabet.now f) c.args.sets.now in
    let many = as_many _ _ l.alphabet_passes l.automaton_passes f c.args.sets.now (omega arith) in
    ap (λ (x : ℕ). x % 256) (c.walk.ensures ∙ ap (λ (hole : ℕ). pairs_of a f ms hole) (sym many))
    ∙ closed-step _ a ms f (sym many) (usable-of _ _ l.alphabet_passes l.automaton_passes f _ many)
