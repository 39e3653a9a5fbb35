-- What is kept is a part of what is written.
use mathlib.Core.Path.{◌≡◌, refl}
use mathlib.Core.Bool.{Bool, true, false, cond}
use mathlib.Core.List.{List, [], ◌∷◌, ◌++◌}
use Prim.Native.Nat.{ℕ, ◌≤◌}
use native.Mathlib.Omega.{arith}
use lib.Dec.{T}
use lib.ListN.{length, replicate}
use Rattle.terms.specs.Grammar.{Name, name, Rule, rank_in, sum_over}
use Rattle.cleaning_terms.specs.Cleaning.{keeps, stays, sift}
use Rattle.cleaning_terms.proofs.Each.{Each}

module _ (alphabet : List ℕ) (sifted : List Rule) where
  pub sift-length : (flags : List Bool) (ms : List ℕ) → length (sift alphabet sifted flags ms) ≤ length ms
  unfolding sift
  sift-length flags [] = omega arith
  sift-length [] (m ∷ ms) = omega arith
  sift-length (true ∷ flags) (m ∷ ms) = go _ (stays sifted (name m)) (sift-length (keeps alphabet sifted (name m) ++ flags) ms)
    where
      go : (ns : List ℕ) (b : Bool) → length ns ≤ length ms → length (cond b (m ∷ ns) ns) ≤ length (m ∷ ms)
      go ns true h = omega arith
      go ns false h = omega arith
  sift-length (false ∷ flags) (m ∷ ms) = omega (arith, sift-length (replicate (rank_in alphabet sifted m) false ++ flags) ms)

  pub sift-sum : (g : Name → ℕ) (flags : List Bool) (ms : List ℕ) → sum_over g (sift alphabet sifted flags ms) ≤ sum_over g ms
  unfolding sift
  sift-sum g flags [] = omega arith
  sift-sum g [] (m ∷ ms) = omega arith
  sift-sum g (true ∷ flags) (m ∷ ms) = go _ (stays sifted (name m)) (sift-sum g (keeps alphabet sifted (name m) ++ flags) ms)
    where
      go : (ns : List ℕ) (b : Bool) → sum_over g ns ≤ sum_over g ms → sum_over g (cond b (m ∷ ns) ns) ≤ sum_over g (m ∷ ms)
      go ns true h = omega arith
      go ns false h = omega arith
  sift-sum g (false ∷ flags) (m ∷ ms) = omega (arith, sift-sum g (replicate (rank_in alphabet sifted m) false ++ flags) ms)

  -- each kept node is one of those written, and stays
  pub sift-each : (P : ℕ → Type 0) (flags : List Bool) (ms : List ℕ) → Each P ms → Each (λ m. P m × T (stays sifted (name m))) (sift alphabet sifted flags ms)
  unfolding sift
  sift-each P flags [] e = tt
  sift-each P [] (m ∷ ms) e = tt
  sift-each P (true ∷ flags) (m ∷ ms) e = go _ (stays sifted (name m)) refl (sift-each P (keeps alphabet sifted (name m) ++ flags) ms e.1)
    where
      go : (ns : List ℕ) (b : Bool) → stays sifted (name m) ≡ b → Each (λ n. P n × T (stays sifted (name n))) ns → Each (λ n. P n × T (stays sifted (name n))) (cond b (m ∷ ns) ns)
      go ns true q h = ((e.0, rw q tt), h)
      go ns false q h = h
  sift-each P (false ∷ flags) (m ∷ ms) e = sift-each P (replicate (rank_in alphabet sifted m) false ++ flags) ms e.1
