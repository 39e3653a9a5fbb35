-- The bytes of parameters, and what a parameter's byte names after it has its new number.
use mathlib.Core.Path.{◌≡◌, refl}
use mathlib.Core.Bool.{Bool, true, false}
use mathlib.Core.List.{List}
use Prim.Native.Nat.{ℕ, ◌+◌, ◌-◌, ◌≤◌, ◌<◌}
use native.Mathlib.Omega.{arith}
use lib.Dec.{ltb}
use lib.ListN.{take}
use borrow.Author.Tests.{ltb-true, ltb-false}
use Rattle.terms.specs.Grammar.{Name, terminal, nonterminal, parameter, nothing, name_of, name}
use Rattle.terms.proofs.Grammar.Name.{name-parameter}
use Rattle.cleaning_terms.specs.Cleaning.{trues, numbered}
use Rattle.cleaning_terms.proofs.Flags.{trues-take}

pub parameter-byte : (n j : ℕ) → name n ≡ parameter j → (n ≡ 0x80 + j) × (j < 4)
unfolding name
parameter-byte n j e = go (ltb n 0x20) (ltb n 0x40) (ltb n 0x80) (ltb n 0x84) (ltb-false n 0x80) (ltb-true n 0x84) e
  where
    go : (a b c d : Bool) → (c ≡ false → 0x80 ≤ n) → (d ≡ true → n < 0x84) → name_of n a b c d ≡ parameter j → (n ≡ 0x80 + j) × (j < 4)
    go true b c d h k e = absurd (let z : ◌≡◌ {A = ℕ} 0 1 = cc in omega arith)
    go false true c d h k e = absurd (let z : ◌≡◌ {A = ℕ} 0 1 = cc in omega arith)
    go false false true d h k e = absurd (let z : ◌≡◌ {A = ℕ} 0 1 = cc in omega arith)
    go false false false true h k e =
        let l = h refl in
        let m = k refl in
        let q : n - 0x80 ≡ j = cc in
        (omega arith, omega arith)
    go false false false false h k e = absurd (let z : ◌≡◌ {A = ℕ} 0 1 = cc in omega arith)

abbrev pub renamed : List Bool → Name → Name
renamed flags (terminal f) = terminal f
renamed flags (nonterminal r) = nonterminal r
renamed flags (parameter j) = parameter (trues (take j flags))
renamed flags nothing = nothing

pub name-numbered : (flags : List Bool) (m : ℕ) → name (numbered flags m (name m)) ≡ renamed flags (name m)
name-numbered flags m = go (name m) refl
  where
    go : (x : Name) → name m ≡ x → name (numbered flags m x) ≡ renamed flags x
    go (terminal f) e = e
    go (nonterminal r) e = e
    go (parameter j) e = name-parameter (trues (take j flags)) (omega (arith, trues-take flags j, (parameter-byte m j e).1))
    go nothing e = e
