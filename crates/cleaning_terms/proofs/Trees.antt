-- Cleaning on trees, and that the pass over the nodes in preorder does the same.
use mathlib.Core.Path.{◌≡◌, refl, sym, ◌∙◌, ap, ap₂}
use mathlib.Core.Bool.{Bool, true, false, cond}
use mathlib.Core.List.{List, [], ◌∷◌, ◌++◌, map, append_assoc, append-nil, map-append}
use Prim.Native.Nat.{ℕ, suc}
use native.Mathlib.Omega.{arith}
use lib.ListN.{length, replicate, length-replicate}
use Rattle.terms.specs.Tree.{Tree, Forest, node, none, more, count, pick, preorder, preorders, Ranked, RankedAll}
use Rattle.terms.specs.Grammar.{Name, terminal, nonterminal, parameter, nothing, name, Rule, rule_at, name_rank, rank_in}
use Rattle.cleaning_terms.specs.Cleaning.{present, keeps, stays, trues, sift}
use Rattle.cleaning_terms.proofs.Flags.{chosen, count_chosen, chosen_none, preorder_one, length-present}
use Rattle.cleaning_terms.proofs.Each.{Each, each_first, each-rest}

-- a node over its kept children, or its one kept child
abbrev pub grown : Bool → ℕ → Forest → Tree
grown true m us = node m us
grown false m us = pick us 0

unfoldable mutual
  -- a right side without what is dropped
  pub kept : List ℕ → List Rule → Tree → Tree
  kept alphabet sifted (node m ts) = grown (stays sifted (name m)) m (chosen (keeps alphabet sifted (name m)) (kepts alphabet sifted ts))

  pub kepts : List ℕ → List Rule → Forest → Forest
  kepts alphabet sifted none = none
  kepts alphabet sifted (more t ts) = more (kept alphabet sifted t) (kepts alphabet sifted ts)

-- a call of a lone parameter keeps one argument
abbrev pub Single : List Rule → Type 0
Single sifted = (r : ℕ) → stays sifted (nonterminal r) ≡ false → trues (present (rule_at sifted r)) ≡ 1

-- ranks

ranked_chosen : (rank : ℕ → ℕ) (bs : List Bool) (ts : Forest) → RankedAll rank ts → RankedAll rank (chosen bs ts)
unfolding chosen RankedAll
ranked_chosen rank [] ts r = tt
ranked_chosen rank (b ∷ bs) none r = tt
ranked_chosen rank (true ∷ bs) (more t ts) r = (r.0, ranked_chosen rank bs ts r.1)
ranked_chosen rank (false ∷ bs) (more t ts) r = ranked_chosen rank bs ts r.1

ranked-first : (rank : ℕ → ℕ) (ts : Forest) → count ts ≡ 1 → RankedAll rank ts → Ranked rank (pick ts 0)
unfolding count pick RankedAll
ranked-first rank none e r = absurd (omega arith)
ranked-first rank (more t ts) e r = r.0

ranked-grown : (rank : ℕ → ℕ) (b : Bool) (m : ℕ) (us : Forest) → (b ≡ false → count us ≡ 1) → count us ≡ rank m → RankedAll rank us → Ranked rank (grown b m us)
unfolding Ranked
ranked-grown rank true m us h e r = (e, r)
ranked-grown rank false m us h e r = ranked-first rank us (h refl) r

module _ (alphabet : List ℕ) (sifted : List Rule) where
  count_kepts : (ts : Forest) → count (kepts alphabet sifted ts) ≡ count ts
  unfolding count kepts
  count_kepts none = refl
  count_kepts (more t ts) = ap suc (count_kepts ts)

  pub length-keeps : (x : Name) → length (keeps alphabet sifted x) ≡ name_rank alphabet sifted x
  length-keeps (terminal f) = length-replicate _ true
  length-keeps (nonterminal r) = length-present (rule_at sifted r)
  length-keeps (parameter j) = refl
  length-keeps nothing = refl

  module _ (single : Single sifted) where
    single-keeps : (x : Name) → stays sifted x ≡ false → trues (keeps alphabet sifted x) ≡ 1
    single-keeps (terminal f) e = absurd (let z : ◌≡◌ {A = ℕ} 0 1 = cc in omega arith)
    single-keeps (nonterminal r) e = single r e
    single-keeps (parameter j) e = absurd (let z : ◌≡◌ {A = ℕ} 0 1 = cc in omega arith)
    single-keeps nothing e = absurd (let z : ◌≡◌ {A = ℕ} 0 1 = cc in omega arith)

    grown-order : (b : Bool) (m : ℕ) (us : Forest) (ns : List ℕ) → (b ≡ false → count us ≡ 1)
        → let behind = preorders us ++ ns in cond b (m ∷ behind) behind ≡ preorder (grown b m us) ++ ns
    unfolding preorder
    grown-order true m us ns h = refl
    grown-order false m us ns h = rw (preorder_one us (h refl))

    -- how many children of a node are kept
    count_kept : (m : ℕ) (ts : Forest) → count ts ≡ rank_in alphabet sifted m
        → count (chosen (keeps alphabet sifted (name m)) (kepts alphabet sifted ts)) ≡ trues (keeps alphabet sifted (name m))
    unfolding rank_in
    count_kept m ts e = count_chosen (keeps alphabet sifted (name m)) (kepts alphabet sifted ts) (count_kepts ts ∙ e ∙ sym (length-keeps (name m)))

    mutual
      unfolding preorder preorders sift Ranked RankedAll kept kepts chosen count rank_in

      sift-tree : (t : Tree) (flags : List Bool) (ns : List ℕ) → Ranked (rank_in alphabet sifted) t
          → sift alphabet sifted (true ∷ flags) (preorder t ++ ns) ≡ preorder (kept alphabet sifted t) ++ sift alphabet sifted flags ns
      sift-tree (node m ts) flags ns r =
          let us = chosen (keeps alphabet sifted (name m)) (kepts alphabet sifted ts) in
          rw (sift_forest ts (keeps alphabet sifted (name m)) flags ns (length-keeps (name m) ∙ sym r.0) r.1)
          (grown-order (stays sifted (name m)) m us (sift alphabet sifted flags ns) (λ e. count_kept m ts r.0 ∙ single-keeps (name m) e))

      sift_dropped : (t : Tree) (flags : List Bool) (ns : List ℕ) → Ranked (rank_in alphabet sifted) t
          → sift alphabet sifted (false ∷ flags) (preorder t ++ ns) ≡ sift alphabet sifted flags ns
      sift_dropped (node m ts) flags ns r =
          sift_forest ts (replicate (rank_in alphabet sifted m) false) flags ns (length-replicate _ false ∙ sym r.0) r.1
          ∙ rw (chosen_none (rank_in alphabet sifted m) (kepts alphabet sifted ts))

      sift_forest : (ts : Forest) (bs flags : List Bool) (ns : List ℕ) → length bs ≡ count ts → RankedAll (rank_in alphabet sifted) ts
          → sift alphabet sifted (bs ++ flags) (preorders ts ++ ns) ≡ preorders (chosen bs (kepts alphabet sifted ts)) ++ sift alphabet sifted flags ns
      sift_forest none [] flags ns e r = refl
      sift_forest none (b ∷ bs) flags ns e r = absurd (omega arith)
      sift_forest (more t ts) [] flags ns e r = absurd (omega arith)
      sift_forest (more t ts) (true ∷ bs) flags ns e r =
          rw (append_assoc (preorder t) (preorders ts) ns, sift-tree t (bs ++ flags) (preorders ts ++ ns) r.0, sift_forest ts bs flags ns (omega arith) r.1)
          (sym (append_assoc (preorder (kept alphabet sifted t)) (preorders (chosen bs (kepts alphabet sifted ts))) (sift alphabet sifted flags ns)))
      sift_forest (more t ts) (false ∷ bs) flags ns e r =
          rw (append_assoc (preorder t) (preorders ts) ns, sift_dropped t (bs ++ flags) (preorders ts ++ ns) r.0) (sift_forest ts bs flags ns (omega arith) r.1)

    -- the pass over the nodes of a right side keeps the nodes that cleaning on trees keeps
    pub sift-kept : (t : Tree) → Ranked (rank_in alphabet sifted) t → sift alphabet sifted (true ∷ []) (preorder t) ≡ preorder (kept alphabet sifted t)
    unfolding sift
    sift-kept t r = rw (append-nil (preorder t), append-nil (preorder (kept alphabet sifted t))) at (sift-tree t [] [] r)

    mutual
      unfolding Ranked RankedAll kept kepts count rank_in

      -- with as many children as are kept
      pub ranked-kept : (t : Tree) → Ranked (rank_in alphabet sifted) t → Ranked (λ m. trues (keeps alphabet sifted (name m))) (kept alphabet sifted t)
      ranked-kept (node m ts) r =
          let us = chosen (keeps alphabet sifted (name m)) (kepts alphabet sifted ts) in
          ranked-grown (λ n. trues (keeps alphabet sifted (name n))) (stays sifted (name m)) m us (λ e. count_kept m ts r.0 ∙ single-keeps (name m) e) (count_kept m ts r.0)
          (ranked_chosen (λ n. trues (keeps alphabet sifted (name n))) (keeps alphabet sifted (name m)) (kepts alphabet sifted ts) (ranked_kepts ts r.1))

      ranked_kepts : (ts : Forest) → RankedAll (rank_in alphabet sifted) ts → RankedAll (λ m. trues (keeps alphabet sifted (name m))) (kepts alphabet sifted ts)
      ranked_kepts none r = tt
      ranked_kepts (more t ts) r = (ranked-kept t r.0, ranked_kepts ts r.1)

-- a tree with each symbol replaced
unfoldable mutual
  pub map_tree : (ℕ → ℕ) → Tree → Tree
  map_tree f (node m ts) = node (f m) (map_trees f ts)

  pub map_trees : (ℕ → ℕ) → Forest → Forest
  map_trees f none = none
  map_trees f (more t ts) = more (map_tree f t) (map_trees f ts)

module _ (f : ℕ → ℕ) where
  count_map : (ts : Forest) → count (map_trees f ts) ≡ count ts
  unfolding count map_trees
  count_map none = refl
  count_map (more t ts) = ap suc (count_map ts)

  mutual
    unfolding preorder preorders map_tree map_trees

    pub preorder-map : (t : Tree) → preorder (map_tree f t) ≡ map f (preorder t)
    preorder-map (node m ts) = ap (λ l. f m ∷ l) (preorders-map ts)

    preorders-map : (ts : Forest) → preorders (map_trees f ts) ≡ map f (preorders ts)
    preorders-map none = refl
    preorders-map (more t ts) = ap₂ (λ k l. k ++ l) (preorder-map t) (preorders-map ts) ∙ sym (map-append f (preorder t) (preorders ts))

  module _ (g h : ℕ → ℕ) where
    mutual
      unfolding Ranked RankedAll map_tree map_trees preorder preorders

      -- where the new symbols have the ranks of the old ones
      pub ranked-map : (t : Tree) → Ranked g t → Each (λ m. g m ≡ h (f m)) (preorder t) → Ranked h (map_tree f t)
      ranked-map (node m ts) r e = (count_map ts ∙ r.0 ∙ e.0, ranked_maps ts r.1 e.1)

      ranked_maps : (ts : Forest) → RankedAll g ts → Each (λ m. g m ≡ h (f m)) (preorders ts) → RankedAll h (map_trees f ts)
      ranked_maps none r e = tt
      ranked_maps (more t ts) r e =
          let P : ℕ → Type 0 = λ m. g m ≡ h (f m) in
          (ranked-map t r.0 (each_first P (preorder t) (preorders ts) e), ranked_maps ts r.1 (each-rest P (preorder t) (preorders ts) e))

module _ (g h : ℕ → ℕ) where
  mutual
    unfolding Ranked RankedAll preorder preorders

    -- where the symbols have the same ranks
    pub ranked-same : (t : Tree) → Ranked g t → Each (λ m. g m ≡ h m) (preorder t) → Ranked h t
    ranked-same (node m ts) r e = (r.0 ∙ e.0, ranked_sames ts r.1 e.1)

    ranked_sames : (ts : Forest) → RankedAll g ts → Each (λ m. g m ≡ h m) (preorders ts) → RankedAll h ts
    ranked_sames none r e = tt
    ranked_sames (more t ts) r e =
        let P : ℕ → Type 0 = λ m. g m ≡ h m in
        (ranked-same t r.0 (each_first P (preorder t) (preorders ts) e), ranked_sames ts r.1 (each-rest P (preorder t) (preorders ts) e))
