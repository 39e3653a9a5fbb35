-- The cleaned grammar derives the tree that the grammar derives.
use mathlib.Core.Path.{◌≡◌, refl, sym, ◌∙◌, ap, ap₂, subst}
use mathlib.Core.Bool.{Bool, true, false}
use mathlib.Core.List.{List, [], ◌∷◌}
use Prim.Native.Nat.{ℕ, zero, suc, ◌-◌, ◌<◌}
use native.Mathlib.Omega.{arith}
use lib.ListN.{length, get_or, take}
use borrow.Author.Tests.{not-false}
use Rattle.terms.specs.Tree.{Tree, Forest, node, none, more, count, pick, preorder, preorders}
use Rattle.terms.specs.Grammar.{Name, terminal, nonterminal, parameter, nothing, name, Rule, rule_at, rule_rank, terminal_rank, right_side, name_value, value, values, apply, derived, Proper}
use Rattle.terms.proofs.Grammar.Fine.{FineName, Fine, Fines, right_fine}
use Rattle.terms.proofs.Grammar.Value.{count-values}
use Rattle.cleaning_terms.specs.Cleaning.{lone, present, keeps, stays, sifted_rules, trues, numbered, cleaned, rule_sifted}
use Rattle.cleaning_terms.proofs.Flags.{chosen, chosen_all, pick_chosen, trues-below, length-present}
use Rattle.cleaning_terms.proofs.Names.{renamed, name-numbered}
use Rattle.cleaning_terms.proofs.Each.{Each, each_map, each_first, each-rest}
use Rattle.cleaning_terms.proofs.Trees.{grown, kept, kepts, map_tree, map_trees}
use Rattle.cleaning_terms.proofs.Sifted.{sifted_at, cleaned-length}
use Rattle.cleaning_terms.proofs.Right.{alone, Held, flags, held, lone-single, rest, rest-order, number, cleaned_right}

module _ (call : ℕ → Forest → Tree) (args : Forest) where
  values_chosen : (bs : List Bool) (ts : Forest) → values call args (chosen bs ts) ≡ chosen bs (values call args ts)
  unfolding values chosen
  values_chosen [] ts = refl
  values_chosen (b ∷ bs) none = refl
  values_chosen (true ∷ bs) (more t ts) = ap (more (value call args t)) (values_chosen bs ts)
  values_chosen (false ∷ bs) (more t ts) = values_chosen bs ts

  value-pick : (ts : Forest) (i : ℕ) → value call args (pick ts i) ≡ pick (values call args ts) i
  unfolding value values pick name
  value-pick none i = refl
  value-pick (more t ts) zero = refl
  value-pick (more t ts) (suc i) = value-pick ts i

-- a right side of rule i without what is dropped has the same value, where the calls of lower rules do
module _ (alphabet : List ℕ) (sifted : List Rule) (ranks : ℕ → ℕ) (i n : ℕ) (call call' : ℕ → Forest → Tree)
    (calls : (r : ℕ) → r < i → (us : Forest) → count us ≡ ranks r → call' r (chosen (present (rule_at sifted r)) us) ≡ call r us)
    (passes : (r : ℕ) → r < i → stays sifted (nonterminal r) ≡ false → (us : Forest) → count us ≡ ranks r → pick (chosen (present (rule_at sifted r)) us) 0 ≡ call r us)
    (args : Forest) where
  value-call : (m r : ℕ) → name m ≡ nonterminal r → r < i → (us vs : Forest) → values call' args us ≡ vs → count vs ≡ ranks r → (b : Bool) → stays sifted (nonterminal r) ≡ b
      → value call' args (grown b m (chosen (present (rule_at sifted r)) us)) ≡ call r vs
  unfolding value
  value-call m r e l us vs h c true s = rw (e, values_chosen call' args (present (rule_at sifted r)) us, h) (calls r l vs c)
  value-call m r e l us vs h c false s =
      value-pick call' args (chosen (present (rule_at sifted r)) us) 0 ∙ rw (values_chosen call' args (present (rule_at sifted r)) us, h) (passes r l s vs c)

  value-name : (m : ℕ) (x : Name) → name m ≡ x → (us vs : Forest) → values call' args us ≡ vs → FineName alphabet ranks i n x (count vs)
      → value call' args (grown (stays sifted x) m (chosen (keeps alphabet sifted x) us)) ≡ name_value call args vs x
  unfolding value
  value-name m (terminal f) e us vs h p =
      let c : count us ≡ terminal_rank alphabet f = sym (count-values call' args us) ∙ ap count h ∙ p.rank in
      rw (chosen_all (terminal_rank alphabet f) us c, e, h)
  value-name m (nonterminal r) e us vs h p = value-call m r e p.0 us vs h p.1 (stays sifted (nonterminal r)) refl
  value-name m (parameter j) e us vs h p = rw e
  value-name m nothing e us vs h p = absurd p

  mutual
    unfolding value values kept kepts

    value-kept : (t : Tree) → Fine alphabet ranks i n t → value call' args (kept alphabet sifted t) ≡ value call args t
    value-kept (node m ts) p =
        value-name m (name m) refl (kepts alphabet sifted ts) (values call args ts) (values-kept ts p.1)
        (subst (FineName alphabet ranks i n (name m)) (sym (count-values call args ts)) p.0)

    values-kept : (ts : Forest) → Fines alphabet ranks i n ts → values call' args (kepts alphabet sifted ts) ≡ values call args ts
    values-kept none p = refl
    values-kept (more t ts) p = ap₂ more (value-kept t p.0) (values-kept ts p.1)

-- a tree under new numbers has the same value at the arguments that are left
module _ (bs : List Bool) (call : ℕ → Forest → Tree) (args : Forest) (fits : count args ≡ length bs) where
  abbrev Marked : ℕ → Type 0
  Marked m = (j : ℕ) → name m ≡ parameter j → get_or bs j false ≡ true

  abbrev renumber : ℕ → ℕ
  renumber m = numbered bs m (name m)

  value_renamed : (x : Name) → ((j : ℕ) → x ≡ parameter j → get_or bs j false ≡ true) → (us vs : Forest) → us ≡ vs
      → name_value call (chosen bs args) us (renamed bs x) ≡ name_value call args vs x
  value_renamed (terminal f) k us vs h = ap (node f) h
  value_renamed (nonterminal r) k us vs h = ap (call r) h
  value_renamed (parameter j) k us vs h = pick_chosen bs args j fits (k j refl)
  value_renamed nothing k us vs h = refl

  mutual
    unfolding value values map_tree map_trees preorder preorders

    value-numbered : (t : Tree) → Each Marked (preorder t) → value call (chosen bs args) (map_tree renumber t) ≡ value call args t
    value-numbered (node m ts) e =
        ap (name_value call (chosen bs args) (values call (chosen bs args) (map_trees renumber ts))) (name-numbered bs m)
        ∙ value_renamed (name m) e.0 (values call (chosen bs args) (map_trees renumber ts)) (values call args ts) (values-numbered ts e.1)

    values-numbered : (ts : Forest) → Each Marked (preorders ts) → values call (chosen bs args) (map_trees renumber ts) ≡ values call args ts
    values-numbered none e = refl
    values-numbered (more t ts) e =
        ap₂ more (value-numbered t (each_first Marked (preorder t) (preorders ts) e)) (values-numbered ts (each-rest Marked (preorder t) (preorders ts) e))

-- a tree of one node, a parameter
value-alone : (call : ℕ → Forest → Tree) (args : Forest) (m j : ℕ) → name m ≡ parameter j → (t : Tree) → preorder t ≡ m ∷ [] → value call args t ≡ pick args j
unfolding value preorder
value-alone call args m j e (node n ts) h =
    let q : n ≡ m = cc in
    rw (q, e)

module _ (alphabet : List ℕ) (rules : List Rule) (p : Proper alphabet rules) where
  abbrev old : ℕ → Tree
  old i = right_side alphabet rules i

  abbrev new : ℕ → Tree
  new i = right_side alphabet (cleaned alphabet rules) i

  abbrev marks : ℕ → List Bool
  marks i = flags alphabet rules p i

  abbrev sifted : ℕ → List Rule
  sifted i = sifted_rules alphabet rules i

  -- with k steps, rule i at its arguments is the cleaned rule at those that are left
  abbrev Same : ℕ → Type 0
  Same k = (i : ℕ) → i < k → i < length rules → (args : Forest) → count args ≡ rule_rank rules i → apply new k i (chosen (marks i) args) ≡ apply old k i args

  -- and where the cleaned rule is a lone parameter, the one argument that is left
  abbrev Passes : ℕ → Type 0
  Passes k = (i : ℕ) → i < k → i < length rules → lone (rule_sifted alphabet rules i).nodes ≡ true → (args : Forest) → count args ≡ rule_rank rules i
      → pick (chosen (marks i) args) 0 ≡ apply old k i args

  module _ (k : ℕ) (same : Same k) (passes : Passes k) (i : ℕ) (h : i < suc k) (l : i < length rules) (args : Forest) (c : count args ≡ rule_rank rules i) where
    fits : count args ≡ length (marks i)
    fits = c ∙ sym (length-present (rule_sifted alphabet rules i))

    value-rest : value (apply new k) args (rest alphabet rules p i) ≡ value (apply old k) args (old i)
    value-rest =
        value-kept alphabet (sifted i) (rule_rank rules) i (rule_rank rules i) (apply old k) (apply new k)
        (λ r q us d. rw (sifted_at alphabet rules i r q) (same r (omega arith) (omega arith) us d))
        (λ r q s us d. rw (sifted_at alphabet rules i r q)
        (passes r (omega arith) (omega arith) (not-false _ (rw (sifted_at alphabet rules i r q) at s)) us d))
        args (old i) (right_fine alphabet rules i (p.proper i l))

    same_next : apply new (suc k) i (chosen (marks i) args) ≡ apply old (suc k) i args
    unfolding apply
    same_next =
        let M : ℕ → Type 0 = Marked (marks i) (apply new k) args fits in
        ap (value (apply new k) (chosen (marks i) args)) (cleaned_right alphabet rules p i l)
        ∙ value-numbered (marks i) (apply new k) args fits (rest alphabet rules p i)
        (subst (Each M) (sym (rest-order alphabet rules p i l))
        (each_map (Held alphabet rules i) M (λ m q. q.marked) (rule_sifted alphabet rules i).nodes (held alphabet rules p i l)))
        ∙ value-rest

    passes-next : lone (rule_sifted alphabet rules i).nodes ≡ true → pick (chosen (marks i) args) 0 ≡ apply old (suc k) i args
    unfolding apply
    passes-next e =
        let a = alone (rule_sifted alphabet rules i).nodes e in
        let first : Each (Held alphabet rules i) (a.byte ∷ []) = subst (Each (Held alphabet rules i)) a.nodes (held alphabet rules p i l) in
        let m = first.0.marked a.number a.names in
        let one : trues (marks i) ≡ 1 = lone-single alphabet rules p i l e in
        let z : trues (take a.number (marks i)) ≡ 0 = omega (arith, trues-below (marks i) a.number m) in
        ap (pick (chosen (marks i) args)) (sym z) ∙ pick_chosen (marks i) args a.number fits m
        ∙ sym (value-alone (apply new k) args a.byte a.number a.names (rest alphabet rules p i) (rest-order alphabet rules p i l ∙ a.nodes)) ∙ value-rest

  both : (k : ℕ) → Same k × Passes k
  both zero = (λ i h. absurd (omega arith), λ i h. absurd (omega arith))
  both (suc k) =
      let b = both k in
      (λ i h l args c. same_next k b.0 b.1 i h l args c, λ i h l e args c. passes-next k b.0 b.1 i h l args c e)

  -- rule i at its arguments derives what the cleaned rule derives at those that are left
  pub cleaned-apply : (k i : ℕ) → i < k → i < length rules → (args : Forest) → count args ≡ rule_rank rules i → apply new k i (chosen (marks i) args) ≡ apply old k i args
  cleaned-apply k = (both k).0

  -- the cleaned grammar derives the grammar's tree
  pub cleaned-derived : derived alphabet (cleaned alphabet rules) ≡ derived alphabet rules
  unfolding derived chosen count
  cleaned-derived =
      let n = length rules in
      rw (cleaned-length alphabet rules) (ap (apply new n (n - 1)) (sym (chosen_none' (marks (n - 1)))) ∙ cleaned-apply n (n - 1) (omega arith) (omega arith) none (sym p.start))
    where
      chosen_none' : (bs : List Bool) → chosen bs none ≡ none
      chosen_none' [] = refl
      chosen_none' (b ∷ bs) = refl
