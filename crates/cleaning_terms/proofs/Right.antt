-- The right sides of the cleaned grammar, as trees.
use mathlib.Core.Path.{◌≡◌, refl, sym, ◌∙◌, ap, subst}
use mathlib.Core.Bool.{Bool, true, false}
use mathlib.Core.List.{List, [], ◌∷◌, map}
use Prim.Native.Nat.{ℕ, ◌≤◌, ◌<◌}
use native.Mathlib.Omega.{arith}
use native.Mathlib.Decide.{dec_lt}
use lib.Dec.{T, ltb→lt}
use lib.ListN.{length, get_or}
use borrow.Author.Tests.{not-false, lt-ltb, le-ltb, eq-eqb, ne_eqb}
use Rattle.terms.specs.Tree.{Tree, preorder, Ranked}
use Rattle.terms.specs.Grammar.{Name, terminal, nonterminal, parameter, nothing, name, Rule, rule_at, rule_rank, name_rank, rank_in, right_side, allowed, is_parameter, sum_over, Proper, any_parameter}
use Rattle.terms.proofs.Test.{is_true, of_true}
use Rattle.terms.proofs.Tabulate.{get_d_tabulate}
use Rattle.terms.proofs.Tree.Whole.{tree_of_preorder}
use Rattle.terms.proofs.Grammar.Fine.{own-parameter, right_preorder, right_ranked}
use Rattle.cleaning_terms.specs.Cleaning.{lone, stands, present, keeps, stays, sift, sifted_rules, trues, numbered, renumbered, cleaned, rule_sifted}
use Rattle.cleaning_terms.proofs.Flags.{trues_one, trues-replicate}
use Rattle.cleaning_terms.proofs.Names.{renamed, name-numbered}
use Rattle.cleaning_terms.proofs.Each.{Each, each_map, each_both, each_of_all}
use Rattle.cleaning_terms.proofs.Sift.{sift-each}
use Rattle.cleaning_terms.proofs.Trees.{Single, kept, sift-kept, ranked-kept, map_tree, preorder-map, ranked-map, ranked-same}
use Rattle.cleaning_terms.proofs.Sifted.{sifted_at, sifted_past, sifted_rank, cleaned_at, cleaned-rank}

-- a parameter among the nodes stands there

is_self : (j : ℕ) → is_parameter j (parameter j) ≡ 1
is_self j = rw (eq-eqb j j refl)

stands-each : (ms : List ℕ) → Each (λ m. (j : ℕ) → name m ≡ parameter j → 1 ≤ sum_over (is_parameter j) ms) ms
stands-each [] = tt
stands-each (m ∷ ms) = (
  λ j e. omega (arith, ap (is_parameter j) e, is_self j),
  each_map (λ n. (j : ℕ) → name n ≡ parameter j → 1 ≤ sum_over (is_parameter j) ms) (λ n. (j : ℕ) → name n ≡ parameter j → 1 ≤ sum_over (is_parameter j) (m ∷ ms))
      (λ n h j e. omega (arith, h j e)) ms (stands-each ms),
)

-- the flags of a lone parameter

lone_one : (n m j : ℕ) → name m ≡ parameter j → j < n → trues (present (record { rank = n; nodes = m ∷ [] })) ≡ 1
unfolding present
lone_one n m j e h =
    trues_one n (stands (m ∷ [])) j h (lt-ltb 0 (sum_over (is_parameter j) (m ∷ [])) (omega (arith, ap (is_parameter j) e, is_self j)))
    (λ k l. le-ltb 0 (sum_over (is_parameter k) (m ∷ [])) (omega (arith, ap (is_parameter k) e, other k l)))
  where
    other : (k : ℕ) → (k ≡ j → ⊥) → is_parameter k (parameter j) ≡ 0
    other k l = rw (ne_eqb k j l)

pub record Alone (ms : List ℕ) : Type 0 where
  pub byte : ℕ
  pub number : ℕ
  pub nodes : ms ≡ byte ∷ []
  pub names : name byte ≡ parameter number

pub alone : (ms : List ℕ) → lone ms ≡ true → Alone ms
alone [] e = absurd (of_true false e)
alone (m ∷ n ∷ ms) e = absurd (of_true false e)
alone (m ∷ []) e = go (name m) refl e
  where
    go : (x : Name) → name m ≡ x → any_parameter x ≡ true → Alone (m ∷ [])
    go (terminal f) q h = absurd (of_true false h)
    go (nonterminal r) q h = absurd (of_true false h)
    go (parameter j) q h = record { byte = m; number = j; nodes = refl; names = q }
    go nothing q h = absurd (of_true false h)

-- what is known of a node m that rule i keeps
pub record Held (alphabet : List ℕ) (rules : List Rule) (i m : ℕ) : Type 0 where
  pub allows : T (allowed alphabet i (rule_rank rules i) (name m))
  pub stay : T (stays (sifted_rules alphabet rules i) (name m))
  pub marked : (j : ℕ) → name m ≡ parameter j → get_or (present (rule_sifted alphabet rules i)) j false ≡ true

module _ (alphabet : List ℕ) (rules : List Rule) (p : Proper alphabet rules) where
  abbrev sifted : ℕ → List Rule
  sifted i = sifted_rules alphabet rules i

  abbrev nodes : ℕ → List ℕ
  nodes i = (rule_sifted alphabet rules i).nodes

  abbrev pub flags : ℕ → List Bool
  flags i = present (rule_sifted alphabet rules i)

  abbrev right : ℕ → Tree
  right i = right_side alphabet rules i

  marked_by : (i j : ℕ) → j < rule_rank rules i → 1 ≤ sum_over (is_parameter j) (nodes i) → get_or (flags i) j false ≡ true
  unfolding present
  marked_by i j h l = get_d_tabulate (rule_rank rules i) (stands (nodes i)) false j h ∙ lt-ltb 0 _ l

  pub held : (i : ℕ) → i < length rules → Each (Held alphabet rules i) (nodes i)
  held i h =
      let A : ℕ → Type 0 = λ m. T (allowed alphabet i (rule_rank rules i) (name m)) in
      let B : ℕ → Type 0 = λ m. A m × T (stays (sifted i) (name m)) in
      let C : ℕ → Type 0 = λ m. (j : ℕ) → name m ≡ parameter j → 1 ≤ sum_over (is_parameter j) (nodes i) in
      let a = each_of_all (λ m. allowed alphabet i (rule_rank rules i) (name m)) (rule_at rules i).nodes (p.proper i h).allowed in
      let b = sift-each alphabet (sifted i) A (true ∷ []) (rule_at rules i).nodes a in
      each_map (λ m. B m × C m) (Held alphabet rules i)
      (λ m q. record {
        allows = q.0.0;
        stay = q.0.1;
        marked = λ j e. marked_by i j (own-parameter alphabet i (rule_rank rules i) (name m) j (is_true _ q.0.0) e) (q.1 j e);
      })
      (nodes i) (each_both B C (nodes i) b (stands-each (nodes i)))

  -- a rule that is a lone parameter has one
  pub lone-single : (r : ℕ) → r < length rules → lone (nodes r) ≡ true → trues (flags r) ≡ 1
  lone-single r h e =
      let a = alone (nodes r) e in
      let first : Each (Held alphabet rules r) (a.byte ∷ []) = subst (Each (Held alphabet rules r)) a.nodes (held r h) in
      subst (λ ms. trues (present (record { rank = rule_rank rules r; nodes = ms })) ≡ 1) (sym a.nodes)
      (lone_one (rule_rank rules r) a.byte a.number a.names
      (own-parameter alphabet r (rule_rank rules r) (name a.byte) a.number (is_true _ first.0.allows) a.names))

  pub single : (i : ℕ) → i ≤ length rules → Single (sifted i)
  single i h r e = go (dec_lt r i)
    where
      go : Dec (r < i) → trues (present (rule_at (sifted i) r)) ≡ 1
      go (yes l) =
          let s = sifted_at alphabet rules i r l in
          rw s (lone-single r (omega arith) (not-false _ (rw s at e)))
      go (no l) = absurd (of_true false (sym (rw (sifted_past alphabet rules i r (omega arith)) at e)))

  -- right sides

  pub sifted_ranked : (i : ℕ) → i < length rules → Ranked (rank_in alphabet (sifted i)) (right i)
  unfolding rank_in
  sifted_ranked i h =
      ranked-same (rank_in alphabet rules) (rank_in alphabet (sifted i)) (right i) (right_ranked alphabet rules i (p.proper i h))
      (subst (Each (λ m. rank_in alphabet rules m ≡ rank_in alphabet (sifted i) m)) (sym (right_preorder alphabet rules i (p.proper i h)))
      (each_map (λ m. T (allowed alphabet i (rule_rank rules i) (name m))) (λ m. rank_in alphabet rules m ≡ rank_in alphabet (sifted i) m) (λ m a. sym (sifted_rank alphabet rules i (name m) a)) (rule_at rules i).nodes
      (each_of_all (λ m. allowed alphabet i (rule_rank rules i) (name m)) (rule_at rules i).nodes (p.proper i h).allowed)))

  -- the right side of rule i without what is dropped
  abbrev pub rest : ℕ → Tree
  rest i = kept alphabet (sifted i) (right i)

  pub rest-order : (i : ℕ) → i < length rules → preorder (rest i) ≡ nodes i
  rest-order i h = sym (sift-kept alphabet (sifted i) (single i (omega arith)) (right i) (sifted_ranked i h)) ∙ ap (sift alphabet (sifted i) (true ∷ [])) (right_preorder alphabet rules i (p.proper i h))

  -- and with the new numbers
  abbrev pub number : ℕ → ℕ → ℕ
  number i m = numbered (flags i) m (name m)

  abbrev pub fresh : ℕ → Tree
  fresh i = map_tree (number i) (rest i)

  new-rank : (i : ℕ) → i ≤ length rules → (x : Name) → T (allowed alphabet i (rule_rank rules i) x)
      → trues (keeps alphabet (sifted i) x) ≡ name_rank alphabet (cleaned alphabet rules) (renamed (flags i) x)
  unfolding trues
  new-rank i h (terminal f) a = trues-replicate (name_rank alphabet rules (terminal f))
  new-rank i h (nonterminal r) a =
      let l = ltb→lt r i a in
      ap (λ (q : Rule). trues (present q)) (sifted_at alphabet rules i r l) ∙ sym (cleaned-rank alphabet rules r (omega arith))
  new-rank i h (parameter j) a = refl
  new-rank i h nothing a = refl

  pub fresh-ranked : (i : ℕ) → i < length rules → Ranked (rank_in alphabet (cleaned alphabet rules)) (fresh i)
  unfolding rank_in
  fresh-ranked i h =
      let rank = rank_in alphabet (cleaned alphabet rules) in
      let P : ℕ → Type 0 = λ m. trues (keeps alphabet (sifted i) (name m)) ≡ rank (number i m) in
      ranked-map (number i) (λ m. trues (keeps alphabet (sifted i) (name m))) rank (rest i)
      (ranked-kept alphabet (sifted i) (single i (omega arith)) (right i) (sifted_ranked i h))
      (subst (Each P) (sym (rest-order i h))
      (each_map (Held alphabet rules i) P (λ m q. rw (name-numbered (flags i) m) (new-rank i (omega arith) (name m) q.allows)) (nodes i) (held i h)))

  pub fresh-order : (i : ℕ) → i < length rules → preorder (fresh i) ≡ (rule_at (cleaned alphabet rules) i).nodes
  unfolding renumbered
  fresh-order i h =
      preorder-map (number i) (rest i) ∙ ap (map (number i)) (rest-order i h) ∙ ap (λ (q : Rule). q.nodes) (sym (cleaned_at alphabet rules i h))

  -- the right side of rule i of the cleaned grammar
  pub cleaned_right : (i : ℕ) → i < length rules → right_side alphabet (cleaned alphabet rules) i ≡ fresh i
  unfolding right_side
  cleaned_right i h =
      let rank = rank_in alphabet (cleaned alphabet rules) in
      rw (← fresh-order i h) (tree_of_preorder rank (fresh i) (fresh-ranked i h))
