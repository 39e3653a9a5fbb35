-- A choice by its digits: relations are joined for one state more, and what is reached with a state of each set is what the states of a call are defined to be.
use mathlib.Core.Path.{◌≡◌, sym, ap, ap₂, ◌∙◌}
use mathlib.Core.Bool.{Bool, true, false, ◌&&◌}
use mathlib.Core.List.{List}
use Prim.Native.Nat.{ℕ, zero, suc, ◌+◌, ◌*◌, ◌/◌, ◌%◌, ◌^◌, ◌<◌}
use native.Mathlib.Nat.{pow-suc, div-div-eq-div-mul}
use native.Mathlib.Numerals.{add-one}
use native.Mathlib.Omega.{arith}
use lib.Bits.{bit_or}
use lib.Dec.{T}
use lib.ListN.{get_or}
use Rattle.terms.specs.Test.{some, every}
use Rattle.terms.specs.Automaton.{has}
use Rattle.terms.specs.Relation.{matrix, related, apply_bits}
use Rattle.terms.proofs.Test.{same_test, both, parts, some_in, some_out, some_cong, every_at}
use Rattle.terms.proofs.Automaton.Bits.{set_cong}
use Rattle.terms.proofs.Automaton.Relation.{matrix-has}
use Rattle.relations.proofs.Matrix.{union_more}
use Rattle.blackboard_terms.specs.Blackboard.{table_length, state_at}
use Rattle.blackboard_terms.specs.Step.{from_sets, call_states}
use Rattle.lane_calls.specs.Call.{reaches}

module _ (table sets : List ℕ) (n d : ℕ) where
  -- what is reached with state s at the last of the parameters that are left
  abbrev pub way : ℕ → ℕ → ℕ → Bool
  way p q s = has (get_or sets (suc n) 0) s && reaches table sets n (8 * d + s) p q

  -- the relations for the states below s of the set, joined
  abbrev pub ways : ℕ → ℕ
  ways s = matrix (λ p q. some s (way p q))

  pub way-taken : (s x r : ℕ) → has (get_or sets (suc n) 0) s ≡ true → x ≡ matrix (reaches table sets n (8 * d + s)) → r ≡ ways s → bit_or x r ≡ ways (s + 1)
  way-taken s x r h e i = union_more way x r s (rw h e) i

  pub way-left : (s r : ℕ) → has (get_or sets (suc n) 0) s ≡ false → r ≡ ways s → r ≡ ways (s + 1)
  unfolding some
  way-left s r h i = rw (add-one s, h) i

-- the digits from one more place on
digits_above : (c n : ℕ) → c / 8 ^ suc n ≡ c / 8 ^ n / 8
digits_above c n = rw (pow-suc 8 n) (sym (div-div-eq-div-mul c (8 ^ n) 8))

module _ (table sets : List ℕ) (q : ℕ) where
  -- digit j of a choice is a state of its set
  abbrev fits : ℕ → ℕ → Bool
  fits c j = has (get_or sets j 0) (state_at c j)

  -- the byte of the choice has the state q
  abbrev gives : ℕ → Bool
  gives c = has (get_or table c 0) q

  abbrev chosen : ℕ → Bool
  chosen c = from_sets sets c && gives c

  -- a choice reaches what its byte has
  reached : (c : ℕ) → T (from_sets sets c) → T (gives c) → (n : ℕ) → n < 4 → T (reaches table sets n (c / 8 ^ suc n) (state_at c 0) q)
  unfolding reaches state_at
  reached c h g zero l =
      let e : 8 * (c / 8) + state_at c 0 ≡ c = omega arith in
      rw e g
  reached c h g (suc n) l =
      let s = state_at c (suc n) in
      let e : 8 * (c / 8 ^ suc (suc n)) + s ≡ c / 8 ^ suc n = omega (arith, digits_above c (suc n)) in
      some_in 8 (way table sets n (c / 8 ^ suc (suc n)) (state_at c 0) q) s (omega arith) (both (fits c (suc n)) _ (every_at 4 (fits c) h (suc n) l) (rw e (reached c h g n (omega arith))))

  -- what is reached is what the byte of some choice has
  module _ (p : ℕ) (hp : p < 8) (first : T (has (get_or sets 0 0) p)) where
    choice : (n d : ℕ) → T (reaches table sets n d p q) → (c : ℕ) × (c / 8 ^ suc n ≡ d) × T (every (suc n) (fits c)) × T (gives c)
    unfolding reaches every state_at
    choice zero d h =
        let e : (8 * d + p) / 8 ^ 0 % 8 ≡ p = omega arith in
        (8 * d + p, omega arith, rw e (both (has (get_or sets 0 0) p) _ first tt), h)
    choice (suc n) d h =
        let (s, l, t) = some_out 8 (way table sets n d p q) h in
        let (own, others) = parts (has (get_or sets (suc n) 0) s) _ t in
        let (c, e, fit, g) = choice n (8 * d + s) others in
        let digit : s ≡ c / 8 ^ suc n % 8 = omega arith in
        (c, omega (arith, digits_above c (suc n)), both (fits c (suc n)) _ (rw digit at own) fit, g)

  -- a state of the first parameter, with which the joined relations go on
  abbrev by_first : ℕ → Bool
  by_first p = has (get_or sets 0 0) p && reaches table sets 3 0 p q

  same_states : some 8 by_first ≡ some table_length chosen
  unfolding state_at
  same_states = same_test (some 8 by_first) (some table_length chosen) there back
    where
      there : T (some 8 by_first) → T (some table_length chosen)
      there h =
          let (p, hp, t) = some_out 8 by_first h in
          let (first, others) = parts (has (get_or sets 0 0) p) _ t in
          let (c, e, fit, g) = choice p hp first 3 0 others in
          some_in table_length chosen c (omega arith) (both (from_sets sets c) _ fit g)

      back : T (some table_length chosen) → T (some 8 by_first)
      back h =
          let (c, l, t) = some_out table_length chosen h in
          let (fit, g) = parts (from_sets sets c) (gives c) t in
          let none : c / 8 ^ 4 ≡ 0 = omega arith in
          some_in 8 by_first (state_at c 0) (omega arith) (both (fits c 0) _ (every_at 4 (fits c) fit 0 (omega arith)) (rw none at (reached c fit g 3 (omega arith))))

-- the joined relations, applied to the set of the first parameter
pub call-is : (table sets : List ℕ) (r x : ℕ) → r ≡ matrix (reaches table sets 3 0) → ((s : ℕ) → s < 8 → has x s ≡ has (get_or sets 0 0) s) → apply_bits r x ≡ call_states table sets
unfolding apply_bits call_states
call-is table sets r x e first =
    set_cong 8 _ _
    (λ q hq.
    some_cong 8 (λ p. has x p && related r p q) (by_first table sets q)
    (λ p hp. ap₂ (λ (a b : Bool). a && b) (first p hp) (ap (λ (y : ℕ). related y p q) e ∙ matrix-has (reaches table sets 3 0) p q hp hq))
    ∙ same_states table sets q)
