-- `rule_checks::rule_fits` meets its contract: where the fourth byte is 00, the definition goes by the kind, as the code does.
use mathlib.Core.Path.{◌≡◌, refl, sym, ◌∙◌}
use mathlib.Core.Bool.{false}
use mathlib.Core.List.{List}
use Prim.Native.Nat.{ℕ, zero, suc, ◌≤◌}
use native.Mathlib.Omega.{arith}
use borrow.Author.Tests.{eq-eqb, ne_eqb}
use lib.ListN.{length}
use Rattle.terms.specs.Grammar.{terminal_rank}
use Rattle.terms.specs.FormBytes.{rule_byte, kind_fits, rule_fits}
use Rattle.rule_checks.proofs.rule_fits.Goals as goal

-- there is no kind above 3
no_kind : (table : List ℕ) (i kind t f n h : ℕ) → 4 ≤ kind → kind_fits table i kind t f n h ≡ false
no_kind table i zero t f n h l = absurd (omega arith)
no_kind table i (suc zero) t f n h l = absurd (omega arith)
no_kind table i (suc (suc zero)) t f n h l = absurd (omega arith)
no_kind table i (suc (suc (suc zero))) t f n h l = absurd (omega arith)
no_kind table i (suc (suc (suc (suc kind)))) t f n h l = refl

-- what is left to test where the fourth byte is 00
by_kind : (alphabet table : List ℕ) (i kind f h : ℕ) → rule_byte table i 3 ≡ 0 → kind ≡ rule_byte table i 0 → f ≡ rule_byte table i 1 → h ≡ rule_byte table i 2
    → rule_fits alphabet table i ≡ kind_fits table i kind (length alphabet) f (terminal_rank alphabet f) h
unfolding rule_fits
by_kind alphabet table i kind f h fourth e0 e1 e2 = rw (eq-eqb _ _ fourth, e0, e1, e2)

pub returns-then-fourth_of-ne0 : goal.returns-then-fourth_of-ne0
unfolding rule_fits
returns-then-fourth_of-ne0 c = rw (← c.fourth_of.ensures, ne_eqb _ _ c.if-fourth_of-ne0.true)

pub returns-in-0 : goal.returns-in-0
returns-in-0 c =
    rw (c.whole_fits.ensures, by_kind _ _ _ _ _ _ (sym c.fourth_of.ensures ∙ c.if-fourth_of-ne0.false) c.kind_of-kind.ensures c.terminal_of-terminal.ensures c.hole_of-hole.ensures, c.in-0.is)

pub returns-in-1 : goal.returns-in-1
returns-in-1 c =
    rw (c.pierced_fits.ensures, by_kind _ _ _ _ _ _ (sym c.fourth_of.ensures ∙ c.if-fourth_of-ne0.false) c.kind_of-kind.ensures c.terminal_of-terminal.ensures c.hole_of-hole.ensures, c.in-1.is)

pub returns-in-2 : goal.returns-in-2
returns-in-2 c =
    rw (c.chain_fits.ensures, by_kind _ _ _ _ _ _ (sym c.fourth_of.ensures ∙ c.if-fourth_of-ne0.false) c.kind_of-kind.ensures c.terminal_of-terminal.ensures c.hole_of-hole.ensures, c.in-2.is)

pub returns-in-3 : goal.returns-in-3
returns-in-3 c =
    rw (c.chain_fits-in-3.ensures, by_kind _ _ _ _ _ _ (sym c.fourth_of.ensures ∙ c.if-fourth_of-ne0.false) c.kind_of-kind.ensures c.terminal_of-terminal.ensures c.hole_of-hole.ensures, c.in-3.is)

pub returns-in_default : goal.returns-in_default
returns-in_default c =
    let above : 4 ≤ c.kind_of-kind.result = omega arith in
    sym
    (by_kind _ _ _ _ _ _ (sym c.fourth_of.ensures ∙ c.if-fourth_of-ne0.false) c.kind_of-kind.ensures c.terminal_of-terminal.ensures c.hole_of-hole.ensures
    ∙ no_kind _ _ _ _ _ _ _ above)
