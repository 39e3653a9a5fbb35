-- Runs that enter at the parameters of a rule are the open runs on its term, and a parameter occurs in what the rule derives where the term has a place for it.
use mathlib.Core.Logic.{◌↔◌, ◌⊎◌, inl, inr}
use mathlib.Core.Path.{◌≡◌, refl, sym, ◌∙◌, ap, subst}
use mathlib.Core.List.{List, [], ◌++◌}
use Prim.Native.Nat.{ℕ, ◌+◌, ◌-◌, ◌<◌}
use native.Mathlib.Omega.{arith}
use native.Mathlib.Decide.{dec_lt}
use lib.ListN.{length, get_or, length-append, get_or-append}
use lib.Seq.{get_or-append-add}
use Rattle.terms.specs.Test.{tabulate}
use Rattle.terms.specs.Tree.{Tree, Forest, node, none, pick, preorder, preorders}
use Rattle.terms.specs.Grammar.{Rule, rule_rank, is_parameter, sum_over, Proper}
use Rattle.terms.specs.Automaton.{Transition, In, Run}
use Rattle.terms.proofs.Tabulate.{length-tabulate, get_d_tabulate}
use Rattle.terms.proofs.Grammar.Name.{name-terminal, name-parameter}
use Rattle.terms.proofs.Grammar.Sum.{sum_over_append}
use Rattle.cleaning_terms.specs.Presence.{leaves, open_tree, Occurs}
use Rattle.cleaning_terms.proofs.Presence.{pick-leaves}
use Rattle.blackboard_terms.specs.Blackboard.{entering, opened, RunEntering}
use Rattle.blackboard_terms.proofs.Term.{Term, Terms, place, symbol, empty, front, closed, closed_all, open_term, RunOpen, over_places, over_all, only, occurs, Present, Fits, AllFit}
use Rattle.blackboard_terms.proofs.Open.{open_apply}
use Rattle.blackboard_terms.proofs.Fit.{present-below, open_fits, open_linear}
use Rattle.blackboard_terms.proofs.Subst.{Extends, run_agree, in_run, out-run}

-- A transition in two lists.

abbrev other : Transition
other = record { terminal = 0; target = 0; children = [] }

in_left : (τ : Transition) (δ ε : List Transition) → In τ δ → In τ (δ ++ ε)
in_left τ δ ε (i, h, e) = (i, omega (arith, length-append δ ε), get_or-append δ ε other i h ∙ e)

in_right : (τ : Transition) (δ ε : List Transition) → In τ ε → In τ (δ ++ ε)
in_right τ δ ε (i, h, e) = (length δ + i, omega (arith, length-append δ ε), get_or-append-add δ ε i other ∙ e)

pub in_either : (τ : Transition) (δ ε : List Transition) → In τ (δ ++ ε) → In τ δ ⊎ In τ ε
in_either τ δ ε (i, h, e) = go (dec_lt i (length δ))
  where
    go : Dec (i < length δ) → In τ δ ⊎ In τ ε
    go (yes l) = inl (i, l, sym (get_or-append δ ε other i l) ∙ e)
    go (no l) =
        let k : length δ + (i - length δ) ≡ i = omega arith in
        inr (i - length δ, omega (arith, length-append δ ε), sym (get_or-append-add δ ε (i - length δ) other) ∙ ap (λ (m : ℕ). get_or (δ ++ ε) m other) k ∙ e)

-- The transitions by which a run enters.

module _ (n : ℕ) (ps : ℕ → ℕ) where
  abbrev enters : ℕ → Transition
  enters j = record { terminal = 0x80 + j; target = ps j; children = [] }

  pub enters_in : (j : ℕ) → j < n → In (enters j) (entering n ps)
  unfolding entering
  enters_in j h = (j, omega (arith, length-tabulate n enters), get_d_tabulate n enters other j h)

  pub enters_out : (τ : Transition) → In τ (entering n ps) → (j : ℕ) × (j < n) × (enters j ≡ τ)
  unfolding entering
  enters_out τ (j, h, e) = let l : j < n = omega (arith, length-tabulate n enters) in (j, l, sym (get_d_tabulate n enters other j l) ∙ e)

  pub extends : (δ : List Transition) → Extends δ (δ ++ entering n ps)
  extends δ = record { old = λ τ i. in_left τ δ (entering n ps) i; new = λ τ i l. go τ l (in_either τ δ (entering n ps) i) }
    where
      go : (τ : Transition) → τ.terminal < 0x20 → In τ δ ⊎ In τ (entering n ps) → In τ δ
      go τ l (inl i) = i
      go τ l (inr i) = let (j, h, e) = enters_out τ i in absurd (let t = ap (λ (σ : Transition). σ.terminal) e in omega arith)

  -- a run on the node of a parameter
  module _ (δ : List Transition) (low : (τ : Transition) → In τ δ → τ.terminal < 0x20) (j : ℕ) (h : j < n) where
    pub parameter-run : Run (δ ++ entering n ps) (node (0x80 + j) none) (ps j)
    parameter-run = (enters j, in_right (enters j) δ (entering n ps) (enters_in j h), refl, refl, tt)

    pub run-parameter : (q : ℕ) → Run (δ ++ entering n ps) (node (0x80 + j) none) q → ps j ≡ q
    run-parameter q (τ, i, a, b, r) = go (in_either τ δ (entering n ps) i)
      where
        go : In τ δ ⊎ In τ (entering n ps) → ps j ≡ q
        go (inl k) = absurd (omega (arith, low τ k))
        go (inr k) =
            let (m, l, e) = enters_out τ k in
            let t : 0x80 + m ≡ τ.terminal = ap (λ (σ : Transition). σ.terminal) e in
            let s : m ≡ j = omega arith in
            sym (ap ps s) ∙ ap (λ (σ : Transition). σ.target) e ∙ b

-- Rules.

module _ (alphabet : List ℕ) (rules : List Rule) (proper : Proper alphabet rules) (i : ℕ) (h : i < length rules) where
  abbrev rank : ℕ
  rank = rule_rank rules i

  abbrev term : Term
  term = open_term alphabet rules i

  abbrev nodes : Forest
  nodes = leaves (tabulate rank (λ j. 0x80 + j))

  open_closed : open_tree alphabet rules i ≡ closed nodes term
  unfolding open_tree
  open_closed = open_apply alphabet rules i nodes

  pub open_few : (j : ℕ) → Present j term → j < rank
  open_few j p = present-below rank j term (open_fits alphabet rules proper i h) p

  node_of : (j : ℕ) → j < rank → pick nodes j ≡ node (0x80 + j) none
  node_of j l = pick-leaves rank (λ k. 0x80 + k) j l

  pub entering_iff : (δ : List Transition) → ((τ : Transition) → In τ δ → τ.terminal < 0x20) → (ps : ℕ → ℕ) (q : ℕ)
      → RunEntering alphabet rules δ i ps q ↔ RunOpen δ ps term q
  entering_iff δ low ps q =
      let δ' = opened rules δ i ps in
      rw open_closed (
        λ r. (
            let (ss, e, s) = out-run δ δ' (extends rank ps δ) nodes rank term q (open_fits alphabet rules proper i h) (open_linear alphabet rules proper i h) r in
            run_agree δ ss ps term q
            (λ j p. sym (run-parameter rank ps δ low j (open_few j p) (ss j) (subst (λ (t : Tree). Run δ' t (ss j)) (node_of j (open_few j p)) (e j p)))) s
            ),
        λ r. in_run δ δ' (extends rank ps δ) nodes term q ps
            (λ j p. subst (λ (t : Tree). Run δ' t (ps j)) (sym (node_of j (open_few j p))) (parameter-run rank ps δ low j (open_few j p))) r,
      )

  -- how often a parameter occurs among the nodes of the tree
  module _ (j : ℕ) where
    mutual
      unfolding closed closed_all over_places over_all preorder preorders

      tree_uses : (t : Term) → Fits rank t → sum_over (is_parameter j) (preorder (closed nodes t)) ≡ occurs j t
      tree_uses (place k) p = rw (node_of k p, name-parameter k (omega (arith, (proper.proper i h).rank))) (omega arith)
      tree_uses (symbol f ts) p = rw (name-terminal f p.0) (omega (arith, trees_use ts p.1))

      trees_use : (ts : Terms) → AllFit rank ts → sum_over (is_parameter j) (preorders (closed_all nodes ts)) ≡ over_all (only j 1) ts
      trees_use empty p = refl
      trees_use (front t ts) p =
          omega (arith, sum_over_append (is_parameter j) (preorder (closed nodes t)) (preorders (closed_all nodes ts)), tree_uses t p.0, trees_use ts p.1)

    pub occurs_iff : Occurs alphabet rules i j ↔ Present j term
    unfolding Occurs
    occurs_iff =
        let e = tree_uses term (open_fits alphabet rules proper i h) in
        rw open_closed (λ o. omega (arith, e), λ p. omega (arith, e))
