-- A relation around the identity is that relation, because the identity goes from a state to that state alone.
use mathlib.Core.Path.{◌≡◌, sym, subst}
use mathlib.Core.Bool.{Bool, ◌&&◌}
use Prim.Native.Nat.{ℕ, ◌<◌}
use lib.Dec.{T, eqb, eqb→eq, eqb_refl}
use Rattle.terms.specs.Test.{some}
use Rattle.terms.specs.Automaton.{set_of}
use Rattle.terms.specs.Relation.{matrix, related, compose_bits}
use Rattle.terms.proofs.Test.{same_test, both, both_0, both_1, some_in, some_out}
use Rattle.terms.proofs.Automaton.Relation.{matrix-has}
use Rattle.relations.specs.Identity.{identity, AroundIdentity}
use Rattle.relations.proofs.Matrix.{matrix-bits}

identity_pair : (p q : ℕ) → p < 8 → q < 8 → related identity p q ≡ eqb p q
unfolding matrix set_of
identity_pair p q hp hq = matrix-has eqb p q hp hq

-- from p by way of the state m to q, first in the identity and then in r
abbrev by_way : ℕ → ℕ → ℕ → ℕ → Bool
by_way r p q m = related identity p m && related r m q

only_way : (r p q : ℕ) → p < 8 → related r p q ≡ some 8 (by_way r p q)
only_way r p q hp = same_test (related r p q) (some 8 (by_way r p q)) there back
  where
    there : T (related r p q) → T (some 8 (by_way r p q))
    there h = some_in 8 (by_way r p q) p hp (both (related identity p p) (related r p q) (rw (identity_pair p p hp hp) (eqb_refl p)) h)

    back : T (some 8 (by_way r p q)) → T (related r p q)
    back h =
        let (m, hm, t) = some_out 8 (by_way r p q) h in
        let e : p ≡ m = eqb→eq p m (rw (identity_pair p m hp hm) at (both_0 (related identity p m) (related r m q) t)) in
        subst (λ (n : ℕ). T (related r n q)) (sym e) (both_1 (related identity p m) (related r m q) t)

pub around-identity : AroundIdentity
unfolding compose_bits
around-identity r h = sym (matrix-bits r (λ p q. some 8 (by_way r p q)) h (λ p q hp hq. only_way r p q hp))
