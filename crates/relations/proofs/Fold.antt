-- The rows of a relation joined into one: first each with the next, then pairs with pairs, then fours with fours.
use mathlib.Core.Path.{◌≡◌, refl, ap, ap₂, sym, ◌∙◌}
use mathlib.Core.Bool.{Bool, true, false, ◌&&◌, ◌||◌}
use Prim.Native.Nat.{ℕ, ◌+◌, ◌*◌, ◌/◌, ◌%◌, ◌^◌}
use native.Mathlib.Omega.{arith}
use lib.Bits.{bit_and, bit_or}
use Rattle.terms.specs.Test.{some}
use Rattle.terms.specs.Automaton.{has}
use Rattle.terms.specs.Relation.{matrix, related, apply_bits}
use Rattle.terms.proofs.Test.{some_cong}
use Rattle.terms.proofs.Automaton.Relation.{matrix-has}
use Rattle.relations.proofs.Laws.{has_or, has_shr, has-low, all_states, or_false, some_add}
use Rattle.relations.proofs.Matrix.{set-bits, and_matrix}

and_swap : (a b : Bool) → a && (b && true) ≡ b && a
and_swap true true = refl
and_swap true false = refl
and_swap false true = refl
and_swap false false = refl

-- y joins the lowest n rows of x into one, and so do the rows above, each with the n rows from it on
abbrev Joins : ℕ → ℕ → ℕ → Type 0
Joins x n y = (q : ℕ) → has y q ≡ some n (λ p. has x (8 * p + q))

join_one : (x : ℕ) → Joins x 1 x
unfolding some
join_one x q =
    let e : q ≡ 8 * 0 + q = omega arith in
    ap (has x) e ∙ or_false (has x (8 * 0 + q))

join_double : (x n y : ℕ) → Joins x n y → Joins x (n + n) (bit_or y (y / 2 ^ (8 * n)))
join_double x n y h q =
    has_or y (y / 2 ^ (8 * n)) q
    ∙ ap₂ (λ (s t : Bool). s || t) (h q)
    (has_shr y (8 * n) q ∙ h (8 * n + q)
    ∙ some_cong n (λ p. has x (8 * p + (8 * n + q))) (λ p. has x (8 * (n + p) + q)) (λ p hp. ap (has x) (omega arith)))
    ∙ sym (some_add n n (λ p. has x (8 * p + q)))

-- the rows of the states, joined
unfoldable pub joined : ℕ → ℕ
joined x = let y = bit_or x (x / 2 ^ 8) in let z = bit_or y (y / 2 ^ 16) in bit_or z (z / 2 ^ 32) % 256

pub joined_is : (relation states x : ℕ) → x ≡ matrix (λ p q. has states p && has 255 q) → joined (bit_and relation x) ≡ apply_bits relation states
unfolding apply_bits related joined
joined_is relation states x e =
    let rows : ℕ = bit_and relation x in
    let f : ℕ → ℕ → Bool = λ p q. related relation p q && (has states p && has 255 q) in
    let is : rows ≡ matrix f = ap (bit_and relation) e ∙ and_matrix relation (λ p q. has states p && has 255 q) in
    set-bits 8 (joined rows) (λ q. some 8 (λ p. has states p && related relation p q)) (omega arith)
    (λ q hq.
    has-low _ 8 q hq ∙ join_double rows 4 _ (join_double rows 2 _ (join_double rows 1 rows (join_one rows))) q
    ∙ some_cong 8 (λ p. has rows (8 * p + q)) (λ p. has states p && related relation p q)
    (λ p hp.
    ap (λ (r : ℕ). related r p q) is ∙ matrix-has f p q hp hq
    ∙ ap (λ (t : Bool). related relation p q && (has states p && t)) (all_states q hq) ∙ and_swap (related relation p q) (has states p)))
