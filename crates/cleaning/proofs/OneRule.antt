-- One rule: its kept nodes under their new numbers, behind its new rank and their number, and what is noted of it.
use mathlib.Core.Path.{◌≡◌, refl, sym, ◌∙◌, ap}
use mathlib.Core.Bool.{Bool, true, false}
use mathlib.Core.List.{List, [], ◌∷◌, ◌++◌, map}
use Prim.Native.Nat.{ℕ, suc, ◌+◌, ◌*◌, ◌-◌, ◌≤◌, ◌<◌}
use native.Mathlib.Omega.{arith}
use borrow.Author.Count.{below_more}
use lib.Dec.{T, ltb→lt}
use lib.ListN.{length, get_or, take, drop, set, length-append, length-set, length-drop, length-map}
use lib.Seq.{get_or-set_same, get_or-set_other, get_or-take, get_or-drop, length-take-le, take-take, take_at, drop_at}
use Rattle.terms.specs.Grammar.{Name, terminal, nonterminal, parameter, nothing, name, Rule, rule_rank, allowed}
use Rattle.terms.specs.Sheet.{written_rule}
use Rattle.terms.specs.Check.{most_rules, highest_rank}
use Rattle.terms.proofs.Tabulate.{tabulated}
use Rattle.cleaning_terms.specs.Cleaning.{lone, stands, present, sift, sifted_rules, trues, numbered, renumbered, rule_sifted}
use Rattle.cleaning_terms.proofs.Each.{each_map, map_each}
use Rattle.cleaning_terms.proofs.Right.{Held, held}
use Rattle.rule_parameters.specs.Numbers.{rule_flags, PresentNoted}
use Rattle.cleaning.specs.declared.notes.Notes.{Notes}
use Rattle.cleaning.specs.Sifting.{Noted, Side, Sifted, kept_nodes}
use Rattle.cleaning.specs.Clean.{RuleReady, NodesCleaned, RuleCleaned}
use Rattle.cleaning.proofs.Parts.{nothing-behind}

module _ {alphabet : List ℕ} {notes : Notes} {i : ℕ} {nodes : List ℕ} {room : ℕ} (g : RuleReady alphabet notes i nodes room) where
  -- the rule, sifted
  abbrev rule : Rule
  rule = rule_sifted alphabet g.rules i

  abbrev rank : ℕ
  rank = rule_rank g.rules i

  -- where its flags begin
  abbrev first : ℕ
  first = highest_rank * i

  pub number-few : i < most_rules
  number-few = omega (arith, g.inside, g.proper.few)

  pub rank-few : rank ≤ highest_rank
  rank-few = (g.proper.proper i g.inside).rank

  pub side : {n : ℕ} → length nodes ≤ n → Side alphabet notes nodes n
  side h = record {
    rules = g.rules;
    number = i;
    proper = g.proper;
    inside = g.inside;
    rule_nodes = g.rule_nodes;
    few = g.few;
    noted = g.noted;
    fits = h;
  }

  side_keeps : {n : ℕ} (h : length nodes ≤ n) → kept_nodes (side h) ≡ rule.nodes
  unfolding side
  side_keeps h = ap (sift alphabet (sifted_rules alphabet g.rules i) (true ∷ [])) g.rule_nodes

  -- flags that say which parameters of the rule are present
  module _ (flags' : List Bool) (size : length flags' ≡ rule_flags) (stand : (j : ℕ) → j < rank → get_or flags' (first + j) false ≡ stands rule.nodes j) where
    row : take rank (drop first flags') ≡ present rule
    unfolding present
    row =
        sym (tabulated rank (stands rule.nodes) false (take rank (drop first flags'))
        (length-take-le rank (drop first flags') (omega (arith, length-drop first flags', number-few, rank-few)))
        (λ j h. sym (get_or-take rank (drop first flags') j false h ∙ get_or-drop first flags' j false ∙ stand j h)))

    new-rank : trues (take rank (drop first flags')) ≡ (renumbered rule).rank
    unfolding renumbered
    new-rank = ap trues row

    -- a parameter of the rule has the number of the present ones before it
    before : (j : ℕ) → j ≤ rank → trues (take j (drop first flags')) ≡ trues (take j (present rule))
    before j h = ap trues (sym (take-take j rank (drop first flags') h) ∙ ap (take j) row)

    new-nodes : map (λ m. numbered (drop first flags') m (name m)) rule.nodes ≡ (renumbered rule).nodes
    unfolding renumbered
    new-nodes =
        map_each (λ m. numbered (drop first flags') m (name m)) (λ m. numbered (present rule) m (name m)) rule.nodes
        (each_map (Held alphabet g.rules i) (λ m. numbered (drop first flags') m (name m) ≡ numbered (present rule) m (name m)) (λ m q. same m (name m) q.allows) rule.nodes
        (held alphabet g.rules g.proper i g.inside))
      where
        same : (m : ℕ) (x : Name) → T (allowed alphabet i rank x) → numbered (drop first flags') m x ≡ numbered (present rule) m x
        same m (terminal f) a = refl
        same m (nonterminal r) a = refl
        same m (parameter j) a = ap (λ n. 0x80 + n) (before j (omega (arith, ltb→lt j rank a)))
        same m nothing a = refl

  -- the rule is noted beside the lower ones
  noted_more : {flags' alone' : List Bool} → PresentNoted rule.nodes rank first notes.present flags' → alone' ≡ set notes.alone i (lone rule.nodes) → Noted alphabet g.rules (suc i) notes.ranks flags' alone'
  noted_more {flags'} d e =
      let n = g.noted in
      rw e
      record {
        ranked = n.ranked;
        flagged = d.long ∙ n.flagged;
        told = length-set notes.alone i (lone rule.nodes) ∙ n.told;
        rank = up (λ r. get_or notes.ranks r 0 ≡ rule_rank g.rules r) n.rank g.rank;
        stand = λ r j h. up (λ k. j < rule_rank g.rules k → get_or flags' (highest_rank * k + j) false ≡ stands (rule_sifted alphabet g.rules k).nodes j)
            (λ k l b. d.before (highest_rank * k + j) (omega (arith, lower-rank k l)) ∙ n.stand k j l b) (λ b. d.noted j b) r h;
        lone = up (λ r. get_or (set notes.alone i (lone rule.nodes)) r false ≡ lone (rule_sifted alphabet g.rules r).nodes)
            (λ r l. get_or-set_other notes.alone i r (lone rule.nodes) false (λ q. omega arith) ∙ n.lone r l)
            (get_or-set_same notes.alone i (lone rule.nodes) false (omega (arith, n.told, number-few)));
      }
    where
      up : (P : ℕ → Type 0) → ((r : ℕ) → r < i → P r) → P i → (r : ℕ) → r < suc i → P r
      up P old new r h = below_more P i old new r (omega arith)

      lower-rank : (k : ℕ) → k < i → rule_rank g.rules k ≤ highest_rank
      lower-rank k l = (g.proper.proper k (omega (arith, g.inside))).rank

-- the nodes are sifted, the present parameters are noted, and the nodes have their new numbers
module _ {alphabet : List ℕ} {notes : Notes} {i : ℕ} {nodes entry sifted : List ℕ} {count : ℕ} (s : Sifted alphabet notes nodes entry count sifted)
    (g₀ : RuleReady alphabet notes i nodes (length entry)) where
  pub kept-within : count ≤ length sifted
  kept-within = omega (arith, s.counted, s.long, g₀.fits)

  module _ {flags' : List Bool} {b : Bool} {part : List ℕ} (n : PresentNoted (take count sifted) (get_or notes.ranks i 0) (highest_rank * i) notes.present flags') (l : b ≡ lone (take count sifted))
      (p : part ≡ map (λ m. numbered (drop (highest_rank * i) flags') m (name m)) (take count sifted)) where
    part_long : length part ≡ count
    part_long = ap length p ∙ length-map (take count sifted) _ ∙ length-take-le count sifted kept-within

    module _ {room : ℕ} (g : RuleReady alphabet notes i nodes room) where
      kept : take count sifted ≡ (rule g).nodes
      unfolding side
      kept = s.kept (side g g₀.fits) ∙ side_keeps g g₀.fits

      noted_here : PresentNoted (rule g).nodes (rank g) (first g) notes.present flags'
      noted_here = rw (kept, g.rank) at n

      written : take count (part ++ drop count sifted) ≡ (renumbered (rule g)).nodes
      written =
          take_at part (drop count sifted) count part_long ∙ p ∙ ap (map (λ m. numbered (drop (highest_rank * i) flags') m (name m))) kept
          ∙ new-nodes g flags' (noted_here.long ∙ g.noted.flagged) noted_here.noted

    pub nodes-cleaned : NodesCleaned alphabet notes i nodes entry count (record { ranks = notes.ranks; present = flags'; alone = set notes.alone i b }) (part ++ drop count sifted)
    nodes-cleaned = record {
      ranks = refl;
      long = omega (arith, length-append part (drop count sifted), part_long, length-drop count sifted, kept-within, s.long);
      short = s.counted;
      written = written;
      noted = λ g. noted_more g (noted_here g) (ap (set notes.alone i) (l ∙ ap lone (kept g)));
    }

-- the new rank and the number of nodes are put before the nodes

two_before : (out ms : List ℕ) (n c k : ℕ) → 2 ≤ length out → take k (drop 2 out) ≡ ms → take (2 + k) (set (set out 0 n) 1 c) ≡ n ∷ c ∷ ms
two_before [] ms n c k h e = absurd (omega arith)
two_before (x ∷ []) ms n c k h e = absurd (omega arith)
two_before (x ∷ y ∷ out) ms n c k h e =
    let z : 2 + k ≡ suc (suc k) = omega arith in
    rw z (ap (λ (l : List ℕ). n ∷ c ∷ l) e)

module _ {alphabet : List ℕ} {notes notes' : Notes} {i : ℕ} {nodes : List ℕ} (out : List ℕ) {part : List ℕ} {count : ℕ} {part' : List ℕ}
    (enough : 2 ≤ length out) (size : length part ≡ length out - 2) (d : NodesCleaned alphabet notes i nodes part count notes' part') where
  -- the slice with these nodes in the part behind the two places
  abbrev out₁ : List ℕ
  out₁ = take 2 out ++ (part' ++ drop (length out - 2) (drop 2 out))

  parted : out₁ ≡ take 2 out ++ part'
  parted = nothing-behind 2 out part'

  pub still_long : length out₁ ≡ length out
  still_long = omega (arith, ap length parted, length-append (take 2 out) part', length-take-le 2 out enough, d.long, size)

  ranks-kept : get_or notes'.ranks i 0 ≡ get_or notes.ranks i 0
  ranks-kept = ap (λ ranks. get_or ranks i 0) d.ranks

  -- its rank, as written, and its flags can be read
  pub rank_there : {room : ℕ} → RuleReady alphabet notes i nodes room → (get_or notes'.ranks i 0 ≤ highest_rank) × (highest_rank * i + highest_rank ≤ rule_flags)
  rank_there g = omega (arith, ranks-kept, g.rank, rank-few g, number-few g)

  module _ {n c : ℕ} (e : n ≡ trues (take (get_or notes'.ranks i 0) (drop (highest_rank * i) notes'.present))) (q : c ≡ count) (fits : count ≤ length part) where
    module _ {room : ℕ} (g : RuleReady alphabet notes i nodes room) where
      noted : Noted alphabet g.rules (suc i) notes'.ranks notes'.present notes'.alone
      noted = d.noted g

      rank_is : n ≡ (renumbered (rule g)).rank
      rank_is = e ∙ ap (λ k. trues (take k (drop (highest_rank * i) notes'.present))) (ranks-kept ∙ g.rank) ∙ new-rank g notes'.present noted.flagged (λ j h. noted.stand i j (omega arith) h)

      nodes_are : take count (drop 2 out₁) ≡ (renumbered (rule g)).nodes
      nodes_are = ap (λ (xs : List ℕ). take count (drop 2 xs)) parted ∙ ap (take count) (drop_at (take 2 out) part' 2 (length-take-le 2 out enough)) ∙ d.written g

      count-is : c ≡ length (renumbered (rule g)).nodes
      count-is = q ∙ sym (length-take-le count part' (omega (arith, d.long, fits))) ∙ ap length (d.written g)

      written-rule : take (2 + count) (set (set out₁ 0 n) 1 c) ≡ written_rule (renumbered (rule g))
      written-rule = two_before out₁ _ n c count (omega (arith, still_long, enough)) nodes_are ∙ rw (rank_is, count-is)

    pub rule-cleaned : RuleCleaned alphabet notes i nodes out (2 + count) notes' (set (set out₁ 0 n) 1 c)
    rule-cleaned = record {
      long = length-set (set out₁ 0 n) 1 c ∙ length-set out₁ 0 n ∙ still_long;
      short = omega (arith, d.short);
      written = written-rule;
      noted = noted;
    }
