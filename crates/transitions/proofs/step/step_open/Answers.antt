-- `transitions::step::step_open` meets its contract: the walk with every state at the hole finds the pairs of the state there and each state of the node.
use mathlib.Core.Path.{◌≡◌, ap, sym, ◌∙◌}
use mathlib.Core.List.{List}
use Prim.Native.Nat.{ℕ}
use native.Mathlib.Omega.{arith}
use lib.ListN.{length, take, set, length-set}
use lib.Seq.{take-set-lt}
use Rattle.terms.specs.Grammar.{terminal_rank}
use Rattle.transitions.specs.Step.{pairs_of}
use Rattle.transitions.proofs.Checked.{rank_few, as_many, usable-of}
use Rattle.transitions.proofs.Node.{open_step_lem}
use Rattle.transitions.proofs.step.step_open.Goals as goal

pub bounds-opened-hole : goal.bounds-opened-hole
bounds-opened-hole c =
    let l = c.args.linked.now in
    omega (arith, rank_few _ _ l.alphabet_passes l.automaton_passes c.args.terminal.0)

pub slice_bounds-opened-end : goal.slice_bounds-opened-end
slice_bounds-opened-end c =
    let l = c.args.linked.now in
    simp length-set (omega (arith, rank_few _ _ l.alphabet_passes l.automaton_passes c.args.terminal.0))

pub slice_bounds-walk-end : goal.slice_bounds-walk-end
slice_bounds-walk-end c =
    let l = c.args.linked.now in
    let four : (x : ℕ) → length (set c.args.sets c.args.hole x) ≡ 4 = λ x. simp length-set (omega arith) in
    sym (as_many _ _ l.alphabet_passes l.automaton_passes c.args.terminal.0 _ (four _))

pub walk-requires : goal.walk-requires
walk-requires c =
    let l = c.args.linked.now in
    let four : (x : ℕ) → length (set c.args.sets c.args.hole x) ≡ 4 = λ x. simp length-set (omega arith) in
    as_many _ _ l.alphabet_passes l.automaton_passes c.args.terminal.0 _ (four _)

pub returns : goal.returns
returns c =
    let l = c.args.linked.now in
    let a = l.automaton.now in
    let f = c.args.terminal.0 in
    let hole = c.args.hole in
    let many = as_many _ _ l.alphabet_passes l.automaton_passes f c.args.sets (omega arith) in
    c.walk.ensures ∙ ap (λ (ms : List ℕ). pairs_of a f ms hole) (take-set-lt (terminal_rank l.alphabet.now f) c.args.sets hole 255 c.requires.1)
    ∙ open_step_lem _ a (take (terminal_rank l.alphabet.now f) c.args.sets) f (sym many) (usable-of _ _ l.alphabet_passes l.automaton_passes f _ many) hole
    (omega (arith, many, c.requires.1))
