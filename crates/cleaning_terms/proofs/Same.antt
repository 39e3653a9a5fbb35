-- Where there is nothing to clean, cleaning changes nothing.
use mathlib.Core.Path.{◌≡◌, refl, sym, ◌∙◌, ap, ap₂, subst}
use mathlib.Core.Bool.{true, false, not}
use mathlib.Core.List.{List, map, map-id}
use Prim.Native.Nat.{ℕ, zero, suc, ◌<◌}
use native.Mathlib.Omega.{arith}
use lib.Dec.{T, ltb→lt}
use lib.ListN.{length, replicate}
use lib.Seq.{ext_get_or}
use borrow.Author.Tests.{lt-ltb}
use Rattle.terms.specs.Test.{all}
use Rattle.terms.specs.Tree.{Tree, Forest, node, none, more, preorder, preorders, Ranked, RankedAll}
use Rattle.terms.specs.Grammar.{Name, terminal, nonterminal, parameter, nothing, name, Rule, rule_at, rule_rank, rank_in, name_rank, right_side, allowed, is_parameter, sum_over, Proper}
use Rattle.terms.proofs.Test.{is_true}
use Rattle.terms.proofs.Grammar.Fine.{right_preorder}
use Rattle.cleaning_terms.specs.Cleaning.{lone, stands, present, keeps, stays, sifted_rules, trues, numbered, renumbered, cleaned, rule_sifted}
use Rattle.cleaning_terms.specs.Clean.{calls_lone, Clean, Strict}
use Rattle.cleaning_terms.proofs.Flags.{chosen_all, trues-replicate, tabulate-all, trues_take_replicate}
use Rattle.cleaning_terms.proofs.Names.{parameter-byte}
use Rattle.cleaning_terms.proofs.Each.{Each, each_map, each_both, each_first, each-rest, each_of_all, all_of_each, map_each}
use Rattle.cleaning_terms.proofs.Trees.{kept, kepts}
use Rattle.cleaning_terms.proofs.Sifted.{empty, sifted_at, cleaned-length, cleaned_at}
use Rattle.cleaning_terms.proofs.Right.{sifted_ranked, rest-order}

-- a node that stays, with all its children
pub record Full (alphabet : List ℕ) (sifted : List Rule) (x : Name) : Type 0 where
  pub stay : stays sifted x ≡ true
  pub all : keeps alphabet sifted x ≡ replicate (name_rank alphabet sifted x) true

module _ (alphabet : List ℕ) (sifted : List Rule) where
  abbrev AllFull : List ℕ → Type 0
  AllFull ms = Each (λ m. Full alphabet sifted (name m)) ms

  mutual
    unfolding kept kepts Ranked RankedAll preorder preorders rank_in

    kept_same : (t : Tree) → Ranked (rank_in alphabet sifted) t → AllFull (preorder t) → kept alphabet sifted t ≡ t
    kept_same (node m ts) r e = rw (kepts_same ts r.1 e.1, e.0.stay, e.0.all, chosen_all (name_rank alphabet sifted (name m)) ts r.0)

    kepts_same : (ts : Forest) → RankedAll (rank_in alphabet sifted) ts → AllFull (preorders ts) → kepts alphabet sifted ts ≡ ts
    kepts_same none r e = refl
    kepts_same (more t ts) r e =
        let P : ℕ → Type 0 = λ m. Full alphabet sifted (name m) in
        ap₂ more (kept_same t r.0 (each_first P (preorder t) (preorders ts) e)) (kepts_same ts r.1 (each-rest P (preorder t) (preorders ts) e))

numbered-same : (alphabet : List ℕ) (i n m : ℕ) (x : Name) → name m ≡ x → T (allowed alphabet i n x) → numbered (replicate n true) m x ≡ m
numbered-same alphabet i n m (terminal f) e a = refl
numbered-same alphabet i n m (nonterminal r) e a = refl
numbered-same alphabet i n m (parameter j) e a = omega (arith, trues_take_replicate n j (omega (arith, ltb→lt j n a)), (parameter-byte m j e).0)
numbered-same alphabet i n m nothing e a = refl

module _ (alphabet : List ℕ) (rules : List Rule) (c : Clean alphabet rules) where
  abbrev p : Proper alphabet rules
  p = c.proper

  abbrev sifted : ℕ → List Rule
  sifted i = sifted_rules alphabet rules i

  all-present : (i : ℕ) → i < length rules → present (rule_at rules i) ≡ replicate (rule_rank rules i) true
  unfolding present
  all-present i h = tabulate-all (rule_rank rules i) (stands (rule_at rules i).nodes) (λ j l. lt-ltb 0 (sum_over (is_parameter j) (rule_at rules i).nodes) (omega (arith, (c.clean i h).exact j l)))

  allowed-each : (i : ℕ) → i < length rules → Each (λ m. T (allowed alphabet i (rule_rank rules i) (name m))) (rule_at rules i).nodes
  allowed-each i h = each_of_all (λ m. allowed alphabet i (rule_rank rules i) (name m)) (rule_at rules i).nodes (p.proper i h).allowed

  module _ (i : ℕ) (h : i < length rules) (lower : (r : ℕ) → r < i → rule_at (sifted i) r ≡ rule_at rules r) where
    full : (x : Name) → T (allowed alphabet i (rule_rank rules i) x) → T (not (calls_lone rules x)) → Full alphabet (sifted i) x
    full (terminal f) a s = record { stay = refl; all = refl }
    full (nonterminal r) a s =
        let l = ltb→lt r i a in
        record {
          stay = rw (lower r l) (is_true _ s);
          all = subst (λ (q : Rule). present q ≡ replicate q.rank true) (sym (lower r l)) (all-present r (omega arith));
        }
    full (parameter j) a s = record { stay = refl; all = refl }
    full nothing a s = record { stay = refl; all = refl }

    all-full : Each (λ m. Full alphabet (sifted i) (name m)) (rule_at rules i).nodes
    all-full =
        let A : ℕ → Type 0 = λ m. T (allowed alphabet i (rule_rank rules i) (name m)) in
        let B : ℕ → Type 0 = λ m. T (not (calls_lone rules (name m))) in
        let ms = (rule_at rules i).nodes in
        each_map (λ m. A m × B m) (λ m. Full alphabet (sifted i) (name m)) (λ m q. full (name m) q.0 q.1) ms
        (each_both A B ms (allowed-each i h) (each_of_all (λ m. not (calls_lone rules (name m))) ms (c.clean i h).calls))

    same_nodes : (rule_sifted alphabet rules i).nodes ≡ (rule_at rules i).nodes
    same_nodes =
        let o = right_preorder alphabet rules i (p.proper i h) in
        sym (rest-order alphabet rules p i h)
        ∙ ap preorder (kept_same alphabet (sifted i) (right_side alphabet rules i) (sifted_ranked alphabet rules p i h) (rw o all-full)) ∙ o

    same-rule : rule_sifted alphabet rules i ≡ rule_at rules i
    same-rule = ap (λ (ms : List ℕ). record { rank = rule_rank rules i; nodes = ms }) same_nodes

  same_sifted : (k i : ℕ) → i < k → i < length rules → rule_sifted alphabet rules i ≡ rule_at rules i
  same_sifted zero i l h = absurd (omega arith)
  same_sifted (suc k) i l h = same-rule i h (λ r q. sifted_at alphabet rules i r q ∙ same_sifted k r (omega arith) (omega arith))

  same-cleaned : (i : ℕ) → i < length rules → rule_at (cleaned alphabet rules) i ≡ rule_at rules i
  unfolding renumbered
  same-cleaned i h =
      let r = rule_at rules i in
      let numbers : map (λ m. numbered (present r) m (name m)) r.nodes ≡ r.nodes =
      map_each (λ m. numbered (present r) m (name m)) (λ m. m) r.nodes
      (each_map (λ m. T (allowed alphabet i (rule_rank rules i) (name m))) (λ m. numbered (present r) m (name m) ≡ m)
      (λ m a. rw (all-present i h) (numbered-same alphabet i (rule_rank rules i) m (name m) refl a)) r.nodes (allowed-each i h))
      ∙ map-id r.nodes in
      let rank : trues (present r) ≡ r.rank = ap trues (all-present i h) ∙ trues-replicate r.rank in
      cleaned_at alphabet rules i h ∙ ap renumbered (same_sifted (suc i) i (omega arith) h)
      ∙ ap₂ (λ (n : ℕ) (ms : List ℕ). record { rank = n; nodes = ms }) rank numbers

  -- a grammar with nothing to clean stays as it is
  pub cleaned-same : cleaned alphabet rules ≡ rules
  cleaned-same =
      ext_get_or empty (cleaned alphabet rules) rules (cleaned-length alphabet rules) (λ i h. same-cleaned i (omega (arith, cleaned-length alphabet rules)))

-- where each parameter occurs once and no right side is a lone parameter, there is nothing to clean

none-lone : (rules : List Rule) (n : ℕ) → ((r : ℕ) → r < n → lone (rule_at rules r).nodes ≡ false) → (alphabet : List ℕ) (k : ℕ) (x : Name) → T (allowed alphabet n k x)
    → T (not (calls_lone rules x))
none-lone rules n h alphabet k (terminal f) a = tt
none-lone rules n h alphabet k (nonterminal r) a = rw (h r (ltb→lt r n a)) tt
none-lone rules n h alphabet k (parameter j) a = tt
none-lone rules n h alphabet k nothing a = tt

module _ (alphabet : List ℕ) (rules : List Rule) (p : Proper alphabet rules) (s : Strict rules) where
  pub strict-clean : Clean alphabet rules
  strict-clean = record {
    proper = p;
    clean = λ i h.
        let ms = (rule_at rules i).nodes in
        record {
          exact = s.once i h;
          calls =
              all_of_each (λ m. not (calls_lone rules (name m))) ms
              (each_map (λ m. T (allowed alphabet i (rule_rank rules i) (name m))) (λ m. T (not (calls_lone rules (name m))))
              (λ m a. none-lone rules i (λ r l. s.several r (omega arith)) alphabet (rule_rank rules i) (name m) a) ms
              (each_of_all (λ m. allowed alphabet i (rule_rank rules i) (name m)) ms (p.proper i h).allowed));
        };
  }
