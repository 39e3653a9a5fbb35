-- `wrapping::wrap::check_wrap` meets its contract: what passed the checks is short, so the sum of the lengths fits and is the length of the sheet.
use Rattle.std.proofs.Common.{◌≡◌, List, ℕ, length, sym, arith, lt-ltb, le-ltb}
use Rattle.terms.specs.Sheet.{wrapped}
use Rattle.terms.specs.Check.{alphabet_refusal, tree_refusal, automaton_refusal}
use Rattle.terms.specs.Calls.{wrap_refusal}
use Rattle.terms.proofs.Sheet.Wrap.{WrapLengths, wrap_lengths}
use Rattle.wrapping.proofs.wrap.check_wrap.Goals as goal

lengths : (alphabet tree automaton : List ℕ) → 0 ≡ alphabet_refusal alphabet → 0 ≡ tree_refusal 128 alphabet tree → 0 ≡ automaton_refusal alphabet automaton
    → WrapLengths alphabet tree automaton
lengths alphabet tree automaton a t m = wrap_lengths alphabet tree automaton (sym a) (sym t) (sym m)

pub overflow_add-alphabet-2 : goal.overflow_add-alphabet-2
overflow_add-alphabet-2 c =
    omega (arith, lengths _ _ _ c.in_ok-check_alphabet.ensures c.in_ok-check_tree.ensures c.in_ok-check_automaton.ensures)

pub overflow_add-alphabet-3 : goal.overflow_add-alphabet-3
overflow_add-alphabet-3 c =
    omega (arith, lengths _ _ _ c.in_ok-check_alphabet.ensures c.in_ok-check_tree.ensures c.in_ok-check_automaton.ensures)

pub returns-then-room-alphabet : goal.returns-then-room-alphabet
unfolding wrap_refusal
returns-then-room-alphabet c =
    let l = lengths _ _ _ c.in_ok-check_alphabet.ensures c.in_ok-check_tree.ensures c.in_ok-check_automaton.ensures in
    rw (← c.in_ok-check_alphabet.ensures, ← c.in_ok-check_tree.ensures, ← c.in_ok-check_automaton.ensures, lt-ltb c.args.room (length (wrapped c.args.alphabet.now c.args.tree.now c.args.automaton.now)) (omega (arith, l)))

pub returns : goal.returns
unfolding wrap_refusal
returns c =
    let l = lengths _ _ _ c.in_ok-check_alphabet.ensures c.in_ok-check_tree.ensures c.in_ok-check_automaton.ensures in
    rw (← c.in_ok-check_alphabet.ensures, ← c.in_ok-check_tree.ensures, ← c.in_ok-check_automaton.ensures, le-ltb c.args.room (length (wrapped c.args.alphabet.now c.args.tree.now c.args.automaton.now)) (omega (arith, l)))
