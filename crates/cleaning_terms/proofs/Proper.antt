-- The cleaned grammar is proper, has each parameter of a rule exactly once, and calls no lone parameter.
use mathlib.Core.Path.{◌≡◌, refl, sym, ◌∙◌, ap, subst}
use mathlib.Core.Bool.{Bool, true, false, not}
use mathlib.Core.List.{List, [], ◌∷◌, map}
use Prim.Native.Nat.{ℕ, ◌-◌, ◌≤◌, ◌<◌}
use native.Mathlib.Omega.{arith}
use native.Mathlib.Decide.{dec_lt, ℕ_discrete}
use lib.Dec.{T, ltb→lt, lt→ltb}
use lib.ListN.{length, get_or, take}
use borrow.Author.Tests.{ltb-true, eq-eqb, ne_eqb}
use Rattle.terms.specs.Tree.{exactly, wholes}
use Rattle.terms.specs.Grammar.{Name, terminal, nonterminal, parameter, nothing, name, Rule, rule_at, rule_rank, rank_in, allowed, all_allowed, is_parameter, any_parameter, sum_over, ProperRule, Proper}
use Rattle.terms.proofs.Tabulate.{get_d_tabulate}
use Rattle.terms.proofs.Tree.Whole.{wholes-preorder}
use Rattle.terms.proofs.Sheet.Grammar.{at_most_once}
use Rattle.cleaning_terms.specs.Cleaning.{lone, stands, present, stays, sifted_rules, trues, numbered, renumbered, cleaned, rule_sifted}
use Rattle.cleaning_terms.specs.Clean.{calls_lone, Clean}
use Rattle.cleaning_terms.proofs.Flags.{trues-below, trues_less, flag_at, flag_inside, length-present}
use Rattle.cleaning_terms.proofs.Names.{renamed, name-numbered}
use Rattle.cleaning_terms.proofs.Each.{Each, each_image, all_of_each, sum_over_image}
use Rattle.cleaning_terms.proofs.Sift.{sift-sum}
use Rattle.cleaning_terms.proofs.Sifted.{sifted_at, cleaned-length, cleaned_at, cleaned-rank, cleaned_rank_le}
use Rattle.cleaning_terms.proofs.Right.{Held, flags, held, number, fresh, fresh-ranked, fresh-order}

-- parameters that are present have different new numbers

same_place : (bs : List Bool) (j q : ℕ) → get_or bs j false ≡ true → get_or bs q false ≡ true → trues (take j bs) ≡ trues (take q bs) → j ≡ q
same_place bs j q h k e = go (dec_lt j q) (dec_lt q j)
  where
    go : Dec (j < q) → Dec (q < j) → j ≡ q
    go (yes l) b = absurd (omega (arith, trues_less bs j q l h))
    go (no l) (yes m) = absurd (omega (arith, trues_less bs q j m k))
    go (no l) (no m) = omega arith

is_renamed : (bs : List Bool) (j : ℕ) → get_or bs j false ≡ true → (x : Name) → ((q : ℕ) → x ≡ parameter q → get_or bs q false ≡ true)
    → is_parameter (trues (take j bs)) (renamed bs x) ≡ is_parameter j x
is_renamed bs j h (terminal f) k = refl
is_renamed bs j h (nonterminal r) k = refl
is_renamed bs j h (parameter q) k = go (ℕ_discrete j q)
  where
    go : Dec (j ≡ q) → is_parameter (trues (take j bs)) (parameter (trues (take q bs))) ≡ is_parameter j (parameter q)
    go (yes e) = rw (eq-eqb j q e, eq-eqb (trues (take j bs)) (trues (take q bs)) (ap (λ i. trues (take i bs)) e))
    go (no n) = rw (ne_eqb j q n, ne_eqb (trues (take j bs)) (trues (take q bs)) (λ e. n (same_place bs j q h (k q refl) e)))
is_renamed bs j h nothing k = refl

allowed_renamed : (alphabet : List ℕ) (i n : ℕ) (bs : List Bool) (x : Name) → ((q : ℕ) → x ≡ parameter q → get_or bs q false ≡ true) → T (allowed alphabet i n x)
    → T (allowed alphabet i (trues bs) (renamed bs x))
allowed_renamed alphabet i n bs (terminal f) k a = a
allowed_renamed alphabet i n bs (nonterminal r) k a = a
allowed_renamed alphabet i n bs (parameter q) k a = lt→ltb (trues (take q bs)) (trues bs) (trues-below bs q (k q refl))
allowed_renamed alphabet i n bs nothing k a = a

any_renamed : (bs : List Bool) (x : Name) → any_parameter (renamed bs x) ≡ any_parameter x
any_renamed bs (terminal f) = refl
any_renamed bs (nonterminal r) = refl
any_renamed bs (parameter j) = refl
any_renamed bs nothing = refl

lone-numbered : (bs : List Bool) (ms : List ℕ) → lone (map (λ m. numbered bs m (name m)) ms) ≡ lone ms
lone-numbered bs [] = refl
lone-numbered bs (m ∷ []) = ap any_parameter (name-numbered bs m) ∙ any_renamed bs (name m)
lone-numbered bs (m ∷ n ∷ ms) = refl

module _ (alphabet : List ℕ) (rules : List Rule) (p : Proper alphabet rules) where
  abbrev clean : List Rule
  clean = cleaned alphabet rules

  abbrev sifted : ℕ → List Rule
  sifted i = sifted_rules alphabet rules i

  abbrev nodes : ℕ → List ℕ
  nodes i = (rule_sifted alphabet rules i).nodes

  abbrev marks : ℕ → List Bool
  marks i = flags alphabet rules p i

  -- a parameter that is present stands once among the nodes that are kept
  present-once : (i : ℕ) → i < length rules → (j : ℕ) → get_or (marks i) j false ≡ true → sum_over (is_parameter j) (nodes i) ≡ 1
  unfolding present
  present-once i h j e =
      let l : j < rule_rank rules i = omega (arith, flag_inside (marks i) j e, length-present (rule_sifted alphabet rules i)) in
      let s = ltb-true 0 (sum_over (is_parameter j) (nodes i)) (sym (get_d_tabulate (rule_rank rules i) (stands (nodes i)) false j l) ∙ e) in
      omega (arith, s, sift-sum alphabet (sifted i) (is_parameter j) (true ∷ []) (rule_at rules i).nodes, (p.proper i h).once j)

  clean-nodes : (i : ℕ) → i < length rules → (rule_at clean i).nodes ≡ map (number alphabet rules p i) (nodes i)
  unfolding renumbered
  clean-nodes i h = ap (λ (r : Rule). r.nodes) (cleaned_at alphabet rules i h)

  exact : (i : ℕ) → i < length rules → (j : ℕ) → j < rule_rank clean i → sum_over (is_parameter j) (rule_at clean i).nodes ≡ 1
  exact i h j l =
      let f = flag_at (marks i) j (omega (arith, cleaned-rank alphabet rules i h)) in
      let is : (m : ℕ) → Held alphabet rules i m → is_parameter j (name (number alphabet rules p i m)) ≡ is_parameter f.place (name m) = λ m q.
      ap (is_parameter j) (name-numbered (marks i) m)
      ∙ subst (λ k. is_parameter k (renamed (marks i) (name m)) ≡ is_parameter f.place (name m)) f.before (is_renamed (marks i) f.place f.holds (name m) q.marked) in
      ap (sum_over (is_parameter j)) (clean-nodes i h)
      ∙ sum_over_image (is_parameter j) (is_parameter f.place) (number alphabet rules p i) is (nodes i) (held alphabet rules p i h) ∙ present-once i h f.place f.holds

  clean-each : (i : ℕ) → i < length rules → Each (λ m. T (allowed alphabet i (rule_rank clean i) (name m))) (rule_at clean i).nodes
  clean-each i h =
      rw (clean-nodes i h, cleaned-rank alphabet rules i h)
      (each_image (Held alphabet rules i) (λ m. T (allowed alphabet i (trues (marks i)) (name m))) (number alphabet rules p i)
      (λ m q. rw (name-numbered (marks i) m) (allowed_renamed alphabet i (rule_rank rules i) (marks i) (name m) q.marked q.allows)) (nodes i)
      (held alphabet rules p i h))

  clean-allowed : (i : ℕ) → i < length rules → T (all_allowed alphabet i (rule_rank clean i) (rule_at clean i).nodes)
  clean-allowed i h = all_of_each (λ m. allowed alphabet i (rule_rank clean i) (name m)) (rule_at clean i).nodes (clean-each i h)

  clean-whole : (i : ℕ) → i < length rules → wholes (rank_in alphabet clean) (rule_at clean i).nodes ≡ exactly 1
  clean-whole i h =
      rw (← fresh-order alphabet rules p i h) (wholes-preorder (rank_in alphabet clean) (fresh alphabet rules p i) (fresh-ranked alphabet rules p i h))

  proper-rule : (i : ℕ) → i < length rules → ProperRule alphabet clean i
  proper-rule i h = record {
    rank = omega (arith, cleaned_rank_le alphabet rules i, (p.proper i h).rank);
    whole = clean-whole i h;
    allowed = clean-allowed i h;
    once = λ j. at_most_once alphabet i (rule_rank clean i) j (rule_at clean i).nodes (clean-allowed i h) (λ l. omega (arith, exact i h j l));
  }

  pub cleaned-proper : Proper alphabet clean
  cleaned-proper =
      let e = cleaned-length alphabet rules in
      record {
        some = omega (arith, p.some);
        few = omega (arith, p.few);
        start = rw e (omega (arith, cleaned_rank_le alphabet rules (length rules - 1), p.start));
        proper = λ i h. proper-rule i (omega arith);
      }

  -- no rule that is called is a lone parameter

  stays-clean : (i : ℕ) → i ≤ length rules → (x : Name) → T (allowed alphabet i (rule_rank rules i) x) → T (stays (sifted i) x)
      → T (not (calls_lone clean (renamed (marks i) x)))
  unfolding renumbered
  stays-clean i h (terminal f) a s = s
  stays-clean i h (nonterminal r) a s =
      let l = ltb→lt r i a in
      let c : lone (rule_at clean r).nodes ≡ lone (rule_at (sifted i) r).nodes =
      ap lone (clean-nodes r (omega arith)) ∙ lone-numbered (marks r) (nodes r) ∙ ap (λ (q : Rule). lone q.nodes) (sym (sifted_at alphabet rules i r l)) in
      rw c s
  stays-clean i h (parameter j) a s = s
  stays-clean i h nothing a s = s

  clean-calls : (i : ℕ) → i < length rules → Each (λ m. T (not (calls_lone clean (name m)))) (rule_at clean i).nodes
  clean-calls i h =
      rw (clean-nodes i h)
      (each_image (Held alphabet rules i) (λ m. T (not (calls_lone clean (name m)))) (number alphabet rules p i)
      (λ m q. rw (name-numbered (marks i) m) (stays-clean i (omega arith) (name m) q.allows q.stay)) (nodes i) (held alphabet rules p i h))

  pub cleaned-clean : Clean alphabet clean
  cleaned-clean = record {
    proper = cleaned-proper;
    clean = λ i h.
        let l : i < length rules = omega (arith, cleaned-length alphabet rules) in
        record { exact = exact i l; calls = all_of_each (λ m. not (calls_lone clean (name m))) (rule_at clean i).nodes (clean-calls i l) };
  }
