-- The nodes of a right side: a parameter's count, what an allowed node has, and how much the nodes can make.
use mathlib.Core.Path.{◌≡◌, refl, ◌∙◌, ap}
use mathlib.Core.Bool.{Bool, true, false, cond}
use mathlib.Core.List.{List, [], ◌∷◌}
use Prim.Native.Nat.{ℕ, zero, suc, ◌+◌, ◌-◌, ◌≤◌, ◌<◌}
use native.Mathlib.Omega.{arith}
use native.Mathlib.Decide.{ℕ_discrete}
use borrow.Author.Tests.{eq-eqb, ne_eqb, ltb-true}
use lib.Dec.{T, leb, eqb, ltb→lt}
use lib.ListN.{length, set}
use lib.Seq.{get_or-set_same, get_or-set_other}
use Rattle.std.proofs.Common.{Option, Some, None, get_or, take, ◌&&◌}
use Rattle.std.specs.List.{list_all}
use Rattle.terms.specs.Test.{every}
use Rattle.terms.specs.Tree.{exactly, lacking, taking, wholes}
use Rattle.terms.specs.Tree as tree
use Rattle.terms.specs.Grammar.{Name, terminal, nonterminal, parameter, nothing, Rule, rule_rank, name_rank, allowed, is_parameter, sum_over}
use Rattle.terms.specs.Check.{most_rules}
use Rattle.terms.proofs.Grammar.Sum.{sum_over_le}
use Rattle.nodes.specs.Nodes.{HasRank, counting, trees_in, ruled_by}

-- the rank of a rule of which only the rank is known
pub rank-known : (ranks : List ℕ) (r : ℕ) → rule_rank (ruled_by ranks) r ≡ get_or ranks r 0
rank-known [] r = refl
rank-known (n ∷ ranks) zero = refl
rank-known (n ∷ ranks) (suc r) = rank-known ranks r

-- counting parameter j adds what is_parameter says to each count
pub count_set : (counts : List ℕ) (j : ℕ) → j < length counts → (k : ℕ)
    → get_or (set counts j (get_or counts j 0 + 1)) k 0 ≡ is_parameter k (parameter j) + get_or counts k 0
count_set counts j h k = go (ℕ_discrete k j)
  where
    go : Dec (k ≡ j) → get_or (set counts j (get_or counts j 0 + 1)) k 0 ≡ is_parameter k (parameter j) + get_or counts k 0
    go (yes e) = rw (e, eq-eqb j j refl, get_or-set_same counts j _ 0 h) (omega arith)
    go (no n) = rw (ne_eqb k j n, get_or-set_other counts j k _ 0 n) (omega arith)

-- what is allowed has a rank
pub has-rank : (alphabet : List ℕ) (i n : ℕ) (x : Name) → allowed alphabet i n x ≡ true → i ≤ most_rules → HasRank (length alphabet) x
has-rank alphabet i n (terminal f) h l = ltb-true f (length alphabet) h
has-rank alphabet i n (nonterminal r) h l = let k = ltb-true r i h in omega arith
has-rank alphabet i n (parameter j) h l = tt
has-rank alphabet i n nothing h l = tt

-- the rank of what is allowed, where the ranks of the lower rules are known
pub rank-lower : (alphabet ranks : List ℕ) (rules : List Rule) (i n : ℕ) → ((r : ℕ) → r < i → get_or ranks r 0 ≡ rule_rank rules r) → (x : Name) → T (allowed alphabet i n x)
    → name_rank alphabet (ruled_by ranks) x ≡ name_rank alphabet rules x
rank-lower alphabet ranks rules i n known (terminal f) h = refl
rank-lower alphabet ranks rules i n known (nonterminal r) h = rank-known ranks r ∙ known r (ltb→lt r i h)
rank-lower alphabet ranks rules i n known (parameter j) h = refl
rank-lower alphabet ranks rules i n known nothing h = refl

-- there are at most as many trees as nodes

abbrev trees : tree.Wholes → ℕ
trees (exactly n) = n
trees lacking = 0

one_more : (r : ℕ) (w : tree.Wholes) → trees (taking r w) ≤ suc (trees w)
unfolding taking
one_more r (exactly n) = go (leb r n)
  where
    go : (b : Bool) → trees (cond b (exactly (suc (n - r))) lacking) ≤ suc n
    go true = omega arith
    go false = omega arith
one_more r lacking = omega arith

at_most_nodes : (rank : ℕ → ℕ) (nodes : List ℕ) → trees (wholes rank nodes) ≤ length nodes
unfolding wholes
at_most_nodes rank [] = omega arith
at_most_nodes rank (m ∷ nodes) = omega (arith, one_more (rank m) (wholes rank nodes), at_most_nodes rank nodes)

pub few_trees : (rank : ℕ → ℕ) (nodes : List ℕ) (behind : Option ℕ) → counting behind ≡ wholes rank nodes → trees_in behind ≤ length nodes
few_trees rank nodes (Some n) e = omega (arith, ap trees e, at_most_nodes rank nodes)
few_trees rank nodes None e = omega arith

-- a parameter occurs at most as often as there are nodes
pub few-times : (j : ℕ) (nodes : List ℕ) → sum_over (is_parameter j) nodes ≤ length nodes
few-times j nodes = omega (arith, sum_over_le (is_parameter j) 1 at_most nodes)
  where
    once : (b : Bool) → cond b 1 0 ≤ 1
    once true = omega arith
    once false = omega arith

    at_most : (x : Name) → is_parameter j x ≤ 1
    at_most (terminal f) = omega arith
    at_most (nonterminal r) = omega arith
    at_most (parameter i) = once (eqb j i)
    at_most nothing = omega arith

-- a test of the numbers below a bound is that of the first, and of those that follow it
every-first : (n : ℕ) (p : ℕ → Bool) → every (suc n) p ≡ (p 0 && every n (λ j. p (suc j)))
unfolding every
every-first zero p = refl
every-first (suc n) p = rw (every-first n p) (swap (p (suc n)) (p 0))
  where
    swap : (a b : Bool) → (a && (b && every n (λ j. p (suc j)))) ≡ (b && (a && every n (λ j. p (suc j))))
    swap true b = refl
    swap false true = refl
    swap false false = refl

-- the first elements of a list pass a test where those at the first places do
pub every-element : {A : Type 0} (p : A → Bool) (n : ℕ) (xs : List A) (d : A) → n ≤ length xs → list_all p (take n xs) ≡ every n (λ j. p (get_or xs j d))
unfolding every
every-element p zero xs d h = refl
every-element p (suc n) [] d h = absurd (omega arith)
every-element p (suc n) (x ∷ xs) d h = rw (every-first n (λ j. p (get_or (x ∷ xs) j d)), every-element p n xs d (omega arith))
