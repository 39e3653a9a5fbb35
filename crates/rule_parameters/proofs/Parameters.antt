-- The parameters of a rule: whether one stands among nodes, the flags that say so, and how many come before one.
use mathlib.Core.Path.{◌≡◌, refl, sym}
use mathlib.Core.Bool.{Bool, true, false, cond}
use mathlib.Core.List.{List, [], ◌∷◌}
use Prim.Native.Nat.{ℕ, ◌+◌, ◌<◌}
use native.Mathlib.Omega.{arith}
use native.Mathlib.Decide.{ℕ_discrete}
use borrow.Author.Tests.{lt-ltb, eq-eqb, ne_eqb}
use lib.Dec.{eqb}
use Rattle.std.specs.List.{list_any, count_by}
use Rattle.std.proofs.lemmas.List.Recursion.{is_count_by}
use Rattle.terms.specs.Grammar.{Name, terminal, nonterminal, parameter, nothing, name, is_parameter, sum_over}
use Rattle.terms.specs.Check.{highest_rank}
use Rattle.terms.proofs.Grammar.Name.{name-parameter}
use Rattle.cleaning_terms.specs.Cleaning.{stands, trues}
use Rattle.cleaning_terms.proofs.Names.{parameter-byte}

-- the byte of parameter j counts, and no other byte does

own-byte : (j m : ℕ) → j < highest_rank → m ≡ 0x80 + j → is_parameter j (name m) ≡ 1
own-byte j m h e = rw (e, name-parameter j h, eq-eqb j j refl)

other_byte : (j m : ℕ) → (m ≡ 0x80 + j → ⊥) → is_parameter j (name m) ≡ 0
other_byte j m h = go (name m) refl
  where
    go : (x : Name) → name m ≡ x → is_parameter j x ≡ 0
    go (terminal f) e = refl
    go (nonterminal r) e = refl
    go (parameter i) e = rw (ne_eqb j i (λ q. h (omega (arith, (parameter-byte m i e).0))))
    go nothing e = refl

-- parameter j stands among the nodes where its byte does
pub stands-any : (j : ℕ) → j < highest_rank → (nodes : List ℕ) → list_any (λ m. eqb m (0x80 + j)) nodes ≡ stands nodes j
stands-any j h [] = refl
stands-any j h (m ∷ nodes) = go (ℕ_discrete m (0x80 + j)) (stands-any j h nodes)
  where
    go : Dec (m ≡ 0x80 + j) → list_any (λ m. eqb m (0x80 + j)) nodes ≡ stands nodes j → list_any (λ m. eqb m (0x80 + j)) (m ∷ nodes) ≡ stands (m ∷ nodes) j
    go (yes e) behind =
        let own = own-byte j m h e in
        rw (eq-eqb _ _ e) (sym (lt-ltb 0 (sum_over (is_parameter j) (m ∷ nodes)) (omega arith)))
    go (no n) behind =
        let other : sum_over (is_parameter j) (m ∷ nodes) ≡ sum_over (is_parameter j) nodes = omega (arith, other_byte j m n) in
        rw (ne_eqb _ _ n, other) behind

-- how many flags are true, in std's word
pub trues-count : (flags : List Bool) → trues flags ≡ count_by (λ b. b) flags
unfolding trues
trues-count flags = is_count_by trues (λ b. b) refl step flags
  where
    step : (b : Bool) (bs : List Bool) → trues (b ∷ bs) ≡ cond b (1 + trues bs) (trues bs)
    step true bs = omega arith
    step false bs = refl
