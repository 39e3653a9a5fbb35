-- `lane_steps::step::step_lanes` meets its contract: the walk with no hole finds the states of the node in each lane.
use mathlib.Core.Path.{◌≡◌, ap, sym, ◌∙◌}
use mathlib.Core.List.{List}
use Prim.Native.Nat.{ℕ, ◌%◌}
use native.Mathlib.Omega.{arith}
use lib.ListN.{length, take, length-map}
use lib.Seq.{length-take-le}
use Rattle.terms.specs.Grammar.{terminal_rank}
use Rattle.transitions.specs.Step.{pairs_of}
use Rattle.transitions.proofs.Checked.{usable-of}
use Rattle.transitions.proofs.Node.{closed-step}
use Rattle.blackboard_terms.specs.Step.{lane, lanes_at}
use Rattle.lane_steps.proofs.step.step_lanes.Goals as goal

pub walk-requires : goal.walk-requires
walk-requires c = length-take-le _ c.args.children.now c.requires.1

pub returns : goal.returns
unfolding lane
returns c p hp =
    let l = c.args.linked.now in
    let a = l.automaton.now in
    let f = c.args.terminal.0 in
    let given : List ℕ = take (terminal_rank l.alphabet.now f) c.args.children.now in
    let ms = lanes_at p given in
    let same : length given ≡ length ms = sym (length-map given (λ y. lane y p)) in
    let many = length-take-le (terminal_rank l.alphabet.now f) c.args.children.now c.requires.1 in
    let e = c.walk.ensures p hp in
    let low : lane c.walk.result p ≡ lane c.walk.result p % 256 = omega arith in
    low ∙ ap (λ (y : ℕ). y % 256) (e ∙ ap (pairs_of a f ms) same)
    ∙ closed-step _ a ms f (sym many ∙ same) (usable-of _ _ l.alphabet_passes l.automaton_passes f _ (sym same ∙ many))
