-- The open term of a rule, by its right side and the open terms of lower rules; with trees in its places it is the rule at these arguments.
use mathlib.Core.Path.{◌≡◌, refl, sym, ◌∙◌, ap, ap₂}
use mathlib.Core.List.{List}
use Prim.Native.Nat.{ℕ, zero, suc, ◌<◌}
use lib.ListN.{length}
use Rattle.terms.specs.Tree.{Tree, Forest, node, none, more, count, pick}
use Rattle.terms.specs.Table.{entry}
use Rattle.terms.specs.Grammar.{Name, terminal, nonterminal, parameter, nothing, name, Rule, rule_at, rule_rank, right_side, name_value, value, values, apply, Proper}
use Rattle.terms.proofs.Table.{entry-step}
use Rattle.terms.proofs.Grammar.Fine.{FineName, Fine, Fines, right_fine}
use Rattle.blackboard_terms.proofs.Term.{Term, Terms, place, symbol, empty, front, size, nth, in_places, in_places_all, closed, closed_all, name_term, term_of, terms_of, no_rule, side_of, open_term}

-- as many terms as children
pub size_terms : (v : ℕ → Term) (ts : Forest) → size (terms_of v ts) ≡ count ts
unfolding terms_of size count
size_terms v none = refl
size_terms v (more t ts) = ap suc (size_terms v ts)

-- Trees in the places.

closed-nth : (args : Forest) (us : Terms) (j : ℕ) → closed args (nth us j) ≡ pick (closed_all args us) j
unfolding closed closed_all nth pick
closed-nth args empty j = refl
closed-nth args (front u us) zero = refl
closed-nth args (front u us) (suc j) = closed-nth args us j

module _ (args : Forest) (us : Terms) where
  mutual
    unfolding closed closed_all in_places in_places_all

    pub closed_in : (t : Term) → closed args (in_places us t) ≡ closed (closed_all args us) t
    closed_in (place j) = closed-nth args us j
    closed_in (symbol f ts) = ap (node f) (closed_ins ts)

    closed_ins : (ts : Terms) → closed_all args (in_places_all us ts) ≡ closed_all (closed_all args us) ts
    closed_ins empty = refl
    closed_ins (front t ts) = ap₂ more (closed_in t) (closed_ins ts)

module _ (call : ℕ → Forest → Tree) (v : ℕ → Term) (same : (r : ℕ) (args : Forest) → call r args ≡ closed args (v r)) (args : Forest) where
  name-closed : (x : Name) (us : Terms) (ts : Forest) → closed_all args us ≡ ts → closed args (name_term v us x) ≡ name_value call args ts x
  unfolding closed closed_all
  name-closed (terminal f) us ts e = ap (node f) e
  name-closed (nonterminal r) us ts e = closed_in args us (v r) ∙ sym (same r (closed_all args us)) ∙ ap (call r) e
  name-closed (parameter j) us ts e = refl
  name-closed nothing us ts e = refl

  mutual
    unfolding value values term_of terms_of closed_all

    value-closed : (t : Tree) → closed args (term_of v t) ≡ value call args t
    value-closed (node n ts) = name-closed (name n) (terms_of v ts) (values call args ts) (values-closed ts)

    values-closed : (ts : Forest) → closed_all args (terms_of v ts) ≡ values call args ts
    values-closed none = refl
    values-closed (more t ts) = ap₂ more (value-closed t) (values-closed ts)

apply-closed : (alphabet : List ℕ) (rules : List Rule) (k i : ℕ) (args : Forest)
    → apply (right_side alphabet rules) k i args ≡ closed args (entry no_rule (symbol 0 empty) (λ rule v. term_of v (side_of alphabet rules rule)) rules k i)
unfolding apply entry closed closed_all right_side
apply-closed alphabet rules zero i args = refl
apply-closed alphabet rules (suc k) i args =
    sym (value-closed (apply (right_side alphabet rules) k) (entry no_rule (symbol 0 empty) (λ rule v. term_of v (side_of alphabet rules rule)) rules k)
    (apply-closed alphabet rules k) args (right_side alphabet rules i))

-- rule i at its arguments is its open term with the arguments in the places
pub open_apply : (alphabet : List ℕ) (rules : List Rule) (i : ℕ) (args : Forest)
    → apply (right_side alphabet rules) (suc i) i args ≡ closed args (open_term alphabet rules i)
unfolding open_term
open_apply alphabet rules i args = apply-closed alphabet rules (suc i) i args

-- From lower rules.

-- a right side that calls rules below i has the same term where the terms below i are the same
module _ (alphabet : List ℕ) (ranks : ℕ → ℕ) (i n : ℕ) (v w : ℕ → Term) (same : (r : ℕ) → r < i → v r ≡ w r) where
  name-same : (x : Name) (k : ℕ) (us vs : Terms) → FineName alphabet ranks i n x k → us ≡ vs → name_term v us x ≡ name_term w vs x
  name-same (terminal f) k us vs p e = ap (symbol f) e
  name-same (nonterminal r) k us vs p e = ap₂ in_places e (same r p.0)
  name-same (parameter j) k us vs p e = refl
  name-same nothing k us vs p e = refl

  mutual
    unfolding term_of terms_of

    term_same : (t : Tree) → Fine alphabet ranks i n t → term_of v t ≡ term_of w t
    term_same (node m ts) p = name-same (name m) (count ts) (terms_of v ts) (terms_of w ts) p.0 (terms_same ts p.1)

    terms_same : (ts : Forest) → Fines alphabet ranks i n ts → terms_of v ts ≡ terms_of w ts
    terms_same none p = refl
    terms_same (more t ts) p = ap₂ front (term_same t p.0) (terms_same ts p.1)

-- the open term of rule i of a proper grammar
pub open_step_lem : (alphabet : List ℕ) (rules : List Rule) → Proper alphabet rules → (i : ℕ) → i < length rules
    → open_term alphabet rules i ≡ term_of (open_term alphabet rules) (right_side alphabet rules i)
unfolding open_term right_side
open_step_lem alphabet rules p i h =
    entry-step no_rule (symbol 0 empty) (λ rule v. term_of v (side_of alphabet rules rule)) rules (length rules)
    (λ j m v w e. term_same alphabet (rule_rank rules) j (rule_rank rules j) v w e (side_of alphabet rules (rule_at rules j)) (unfold right_side in right_fine alphabet rules j (p.proper j m)))
    i h
