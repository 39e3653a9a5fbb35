-- The term of a rule: its symbols are terminals, its places are the rule's parameters, and each parameter has at most one place.
use mathlib.Core.Path.{◌≡◌, refl, sym, subst}
use mathlib.Core.List.{List}
use Prim.Native.Nat.{ℕ, zero, suc, ◌+◌, ◌≤◌, ◌<◌}
use native.Mathlib.Omega.{arith}
use lib.ListN.{length}
use Rattle.terms.specs.Tree.{Tree, Forest, node, none, more, count, preorder, preorders}
use Rattle.terms.specs.Grammar.{Name, terminal, nonterminal, parameter, nothing, name, Rule, rule_rank, right_side, is_parameter, sum_over, Proper}
use Rattle.terms.proofs.Grammar.Name.{terminal-byte}
use Rattle.terms.proofs.Grammar.Sum.{sum_over_append}
use Rattle.terms.proofs.Grammar.Fine.{FineName, Fine, Fines, right_fine, right_preorder}
use Rattle.blackboard_terms.proofs.Term.{Term, Terms, place, symbol, empty, front, size, nth, in_places, in_places_all, name_term, term_of, terms_of, open_term, over_places, over_all, only, occurs, Linear, Present, Fits, AllFit}
use Rattle.blackboard_terms.proofs.Place.{occurs_in, only_eq, split}
use Rattle.blackboard_terms.proofs.Open.{size_terms, open_step_lem}

-- only places that fit are present
mutual
  unfolding over_places over_all

  pub present-below : (n j : ℕ) (t : Term) → Fits n t → Present j t → j < n
  present-below n j (place k) p h = rw (only_eq j k h) p
  present-below n j (symbol f ts) p h = all-below n j ts p.1 h

  all-below : (n j : ℕ) (ts : Terms) → AllFit n ts → 0 < over_all (only j 1) ts → j < n
  all-below n j empty p h = absurd (omega arith)
  all-below n j (front t ts) p h = split (occurs j t) (over_all (only j 1) ts) h (λ l. present-below n j t p.0 l) (λ l. all-below n j ts p.1 l)

-- a term in whose places stand terms that fit

fit_nth : (n : ℕ) (us : Terms) (j : ℕ) → AllFit n us → j < size us → Fits n (nth us j)
unfolding size nth
fit_nth n empty j p h = absurd (omega arith)
fit_nth n (front u us) zero p h = p.0
fit_nth n (front u us) (suc j) p h = fit_nth n us j p.1 (omega arith)

module _ (n : ℕ) (us : Terms) (fit : AllFit n us) where
  mutual
    unfolding in_places in_places_all

    fit_in : (t : Term) → Fits (size us) t → Fits n (in_places us t)
    fit_in (place j) p = fit_nth n us j fit p
    fit_in (symbol f ts) p = (p.0, fit_ins ts p.1)

    fit_ins : (ts : Terms) → AllFit (size us) ts → AllFit n (in_places_all us ts)
    fit_ins empty p = tt
    fit_ins (front t ts) p = (fit_in t p.0, fit_ins ts p.1)

-- a right side, where the terms of lower rules are as they should be
module _ (alphabet : List ℕ) (ranks : ℕ → ℕ) (i n : ℕ) (v : ℕ → Term) where
  module _ (fits : (r : ℕ) → r < i → Fits (ranks r) (v r)) where
    name-fits : (m : ℕ) (x : Name) → name m ≡ x → (us : Terms) → FineName alphabet ranks i n x (size us) → AllFit n us → Fits n (name_term v us x)
    name-fits m (terminal f) e us p q = ((terminal-byte m f e).1, q)
    name-fits m (nonterminal r) e us p q = fit_in n us q (v r) (rw p.1 (fits r p.0))
    name-fits m (parameter j) e us p q = p
    name-fits m nothing e us p q = absurd p

    mutual
      unfolding term_of terms_of

      term_fits : (t : Tree) → Fine alphabet ranks i n t → Fits n (term_of v t)
      term_fits (node m ts) p = name-fits m (name m) refl (terms_of v ts) (rw (size_terms v ts) p.0) (terms_fit ts p.1)

      terms_fit : (ts : Forest) → Fines alphabet ranks i n ts → AllFit n (terms_of v ts)
      terms_fit none p = tt
      terms_fit (more t ts) p = (term_fits t p.0, terms_fit ts p.1)

  -- a parameter stands no more often than in the right side
  module _ (linear : (r : ℕ) → r < i → Linear (v r)) (j : ℕ) where
    name-once : (k : ℕ) (x : Name) (us : Terms) → FineName alphabet ranks i n x k → occurs j (name_term v us x) ≤ is_parameter j x + over_all (only j 1) us
    unfolding over_places over_all
    name-once k (terminal f) us p = omega arith
    name-once k (nonterminal r) us p = omega (arith, occurs_in j us (v r) (linear r p.0))
    name-once k (parameter m) us p = omega arith
    name-once k nothing us p = absurd p

    mutual
      unfolding term_of terms_of over_places over_all preorder preorders

      term_once : (t : Tree) → Fine alphabet ranks i n t → occurs j (term_of v t) ≤ sum_over (is_parameter j) (preorder t)
      term_once (node m ts) p = omega (arith, name-once (count ts) (name m) (terms_of v ts) p.0, terms_once ts p.1)

      terms_once : (ts : Forest) → Fines alphabet ranks i n ts → over_all (only j 1) (terms_of v ts) ≤ sum_over (is_parameter j) (preorders ts)
      terms_once none p = omega arith
      terms_once (more t ts) p = omega (arith, term_once t p.0, terms_once ts p.1, sum_over_append (is_parameter j) (preorder t) (preorders ts))

-- the rules of a grammar, by induction over them
module _ (alphabet : List ℕ) (rules : List Rule) (proper : Proper alphabet rules) where
  abbrev own : ℕ → Term
  own i = open_term alphabet rules i

  fits_below : (k i : ℕ) → i < k → i < length rules → Fits (rule_rank rules i) (own i)
  fits_below zero i l h = absurd (omega arith)
  fits_below (suc k) i l h =
      rw (open_step_lem alphabet rules proper i h)
      (term_fits alphabet (rule_rank rules) i (rule_rank rules i) own (λ r m. fits_below k r (omega arith) (omega arith)) (right_side alphabet rules i) (right_fine alphabet rules i (proper.proper i h)))

  linear-below : (k i : ℕ) → i < k → i < length rules → Linear (own i)
  linear-below zero i l h j = absurd (omega arith)
  linear-below (suc k) i l h j =
      rw (open_step_lem alphabet rules proper i h)
      (omega (
        arith,
        term_once alphabet (rule_rank rules) i (rule_rank rules i) own (λ r m. linear-below k r (omega arith) (omega arith)) j (right_side alphabet rules i) (right_fine alphabet rules i (proper.proper i h)),
        subst (λ (ms : List ℕ). sum_over (is_parameter j) ms ≤ 1) (sym (right_preorder alphabet rules i (proper.proper i h))) ((proper.proper i h).once j),
      ))

  pub open_fits : (i : ℕ) → i < length rules → Fits (rule_rank rules i) (own i)
  open_fits i h = fits_below (suc i) i (omega arith) h

  pub open_linear : (i : ℕ) → i < length rules → Linear (own i)
  open_linear i h = linear-below (suc i) i (omega arith) h
