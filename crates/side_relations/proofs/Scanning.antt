-- The nodes of a right side from the last to the first: in each lane, the stack of relations has the sets that a scan under the lane's choice finds.
use mathlib.Core.Logic.{◌↔◌}
use mathlib.Core.Path.{◌≡◌, refl, sym, ◌∙◌, ap, ap₂, subst}
use mathlib.Core.Bool.{Bool, true, false, ◌&&◌}
use mathlib.Core.List.{List, [], ◌∷◌, map}
use Prim.Native.Nat.{ℕ, zero, suc, ◌+◌, ◌*◌, ◌-◌, ◌≤◌, ◌<◌}
use native.Mathlib.Omega.{arith}
use native.Mathlib.Decide.{dec_lt}
use lib.Dec.{T, ltb, ltb→lt}
use lib.ListN.{length, get_or, drop, take, set, length-drop, length-set, get_or-eq_default}
use lib.Seq.{drop-cons, drop-drop, drop-length, drop-set-lt, get_or-set_same, length-take-le}
use borrow.Author.Tests.{lt-ltb, le-ltb}
use Rattle.terms.specs.Test.{tabulate}
use Rattle.terms.specs.Tree.{exactly, taking, wholes}
use Rattle.terms.specs.Grammar.{Name, terminal, nonterminal, parameter, nothing, name, rule_rank, name_rank, rank_in, allowed}
use Rattle.terms.specs.Automaton.{Transition}
use Rattle.terms.specs.Sheet.{state_count, transitions_of}
use Rattle.terms.specs.Check.{most_rules, most_nodes, highest_rank}
use Rattle.terms.proofs.Test.{all_at, is_true}
use Rattle.terms.proofs.Tabulate.{length-tabulate, get_d_tabulate}
use Rattle.terms.proofs.Scan.{some-whole}
use Rattle.terms.proofs.Tree.Whole.{taken}
use Rattle.terms.proofs.Form.Bytes.{rank_le}
use Rattle.terms.proofs.Sheet.Passed.{alphabet_passed}
use Rattle.terms.proofs.Sheet.Automaton.{automaton_passed}
use Rattle.nodes.specs.Nodes.{ruled_by, HasRank}
use Rattle.nodes.proofs.Node as node
use Rattle.cleaning_terms.specs.Cleaning.{stands, rule_sifted}
use Rattle.cleaning_terms.specs.Cleaning as sifted
use Rattle.cleaning_terms.specs.Presence.{Occurs, is_present}
use Rattle.cleaning_terms.proofs.Sifted.{sifted_at}
use Rattle.cleaning_terms.proofs.Presence.{presence}
use Rattle.blackboard_terms.specs.Blackboard.{table_byte, rule_table}
use Rattle.blackboard_terms.specs.Step.{entered, call_states, name_states, scanned, lane, lanes_at, LanesAre}
use Rattle.blackboard_terms.proofs.Method.{byte-scan}
use Rattle.blackboard_terms.proofs.Tables.{table_part}
use Rattle.blackboard_terms.proofs.Sheet.{automaton_sound}
use Rattle.side_relations.specs.Side.{call_in, NodeReady, SideReady, SideRelated}

-- a list and what a function makes of it, in two parts

map-take : (f : ℕ → ℕ) (n : ℕ) (xs : List ℕ) → map f (take n xs) ≡ take n (map f xs)
map-take f zero xs = refl
map-take f (suc n) [] = refl
map-take f (suc n) (x ∷ xs) = ap (λ (ys : List ℕ). f x ∷ ys) (map-take f n xs)

map-drop : (f : ℕ → ℕ) (n : ℕ) (xs : List ℕ) → map f (drop n xs) ≡ drop n (map f xs)
map-drop f zero xs = refl
map-drop f (suc n) [] = refl
map-drop f (suc n) (x ∷ xs) = map-drop f n xs

module _ {alphabet automaton tables ranks : List ℕ} {present : List Bool} {nodes : List ℕ} {choice lanes : ℕ}
    (g : SideReady alphabet automaton tables ranks present nodes choice lanes) where
  abbrev rank_of : ℕ → ℕ
  rank_of = rank_in alphabet g.given.rules

  abbrev δ : List Transition
  δ = transitions_of alphabet automaton

  -- the sets that a scan finds in lane p, of the nodes from a place on
  abbrev after : ℕ → ℕ → List ℕ
  after p left = scanned (name_states δ (call_in tables present) (8 * choice + p)) rank_of (drop left nodes)

  pub record Scanning (left low : ℕ) (stack : List ℕ) : Type 0 where
    pub upto : left ≤ length nodes
    pub long : length stack ≡ most_nodes
    pub deep : low ≤ most_nodes
    pub shallow : most_nodes - low ≤ length nodes - left
    pub whole : wholes rank_of (drop left nodes) ≡ exactly (most_nodes - low)
    pub sets : (p : ℕ) → p < lanes → lanes_at p (drop low stack) ≡ after p left

  pub scan-none : {left low : ℕ} {stack : List ℕ} → left ≡ length nodes → low ≡ most_nodes → length stack ≡ most_nodes → Scanning left low stack
  unfolding wholes scanned
  scan-none {left} {low} {stack} e d l =
      let none : drop left nodes ≡ [] = rw (e, drop-length nodes) in
      let empty : drop low stack ≡ [] = ap (λ (n : ℕ). drop n stack) (d ∙ sym l) ∙ drop-length stack in
      let size : most_nodes - low ≡ 0 = omega arith in
      record {
        upto = omega arith;
        long = l;
        deep = omega arith;
        shallow = omega arith;
        whole = rw (none, size);
        sets = λ p h. rw (none, empty);
      }

  -- one node
  module _ (left : ℕ) {left₀ low : ℕ} {stack : List ℕ} (e : left₀ ≡ suc left) (s' : Scanning left₀ low stack) where
    s : Scanning (suc left) low stack
    s = subst (λ (n : ℕ). Scanning n low stack) e s'

    abbrev f : ℕ
    f = get_or nodes left 0

    abbrev k : ℕ
    k = rank_of f

    abbrev xs : List ℕ
    xs = drop low stack

    split : drop left nodes ≡ f ∷ drop (suc left) nodes
    split = drop-cons nodes left 0 (omega (arith, s.upto))

    -- the stack has as many sets as the node takes
    trees : (n : ℕ) × (wholes rank_of (drop left nodes) ≡ exactly n) × (k ≤ most_nodes - low) × (n ≡ suc (most_nodes - low - k))
    unfolding wholes
    trees =
        let p = (g.given.proper.proper g.number g.given.inside).whole in
        let (n, w) = some-whole rank_of nodes left 1 (rw g.given.rule_nodes p) in
        let w₁ : taking k (wholes rank_of (drop (suc left) nodes)) ≡ exactly n = rw split at w in
        let t = taken k n (wholes rank_of (drop (suc left) nodes)) w₁ in
        let was : exactly t.trees ≡ exactly (most_nodes - low) = sym t.was ∙ s.whole in
        let z : t.trees ≡ most_nodes - low = cc in
        (n, w, rw z at t.enough, rw z at t.left)

    abbrev rank : ℕ
    rank = rule_rank g.given.rules g.number

    named : T (allowed alphabet g.number rank (name f))
    named =
        let p = (g.given.proper.proper g.number g.given.inside).allowed in
        all_at (λ n. allowed alphabet g.number rank (name n)) nodes 0 (rw g.given.rule_nodes p) left (omega (arith, s.upto))

    few-rules : g.number < most_rules
    few-rules = omega (arith, g.given.inside, g.given.proper.few)

    pub node-ranked : HasRank (length alphabet) (name f)
    node-ranked = node.has-rank alphabet g.number rank (name f) (is_true _ named) (omega (arith, few-rules))

    lower-rank : (r : ℕ) → r < g.number → rule_rank g.given.rules r ≤ highest_rank
    lower-rank r h = (g.given.proper.proper r (omega (arith, g.given.inside))).rank

    node-low : k ≤ highest_rank
    unfolding rank_in
    node-low = go (name f) named
      where
        go : (x : Name) → T (allowed alphabet g.number rank x) → name_rank alphabet g.given.rules x ≤ highest_rank
        go (terminal a) h = rank_le alphabet (alphabet_passed alphabet g.given.alphabet-passes).ranks a
        go (nonterminal r) h = lower-rank r (ltb→lt r g.number h)
        go (parameter j) h = omega arith
        go nothing h = omega arith

    -- the node takes the sets from `low` on, and its own comes before those that are left
    pub room : (k ≤ highest_rank) × (1 ≤ low) × (low + k ≤ most_nodes)
    room = (node-low, omega (arith, s.shallow, g.given.few, s.upto), omega (arith, trees.2, s.deep))

    abbrev children : List ℕ
    children = take k xs

    as_many : length children ≡ k
    as_many = length-take-le k xs (omega (arith, length-drop low stack, s.long, room))

    ready : NodeReady alphabet tables children lanes (name f)
    unfolding rank_in
    ready = go (name f) named refl
      where
        go : (x : Name) → T (allowed alphabet g.number rank x) → name_rank alphabet g.given.rules x ≡ k → NodeReady alphabet tables children lanes x
        go (terminal a) h q = (ltb→lt a (length alphabet) h, q ∙ sym as_many, g.eight)
        go (nonterminal r) h q =
            let l = ltb→lt r g.number h in
            (omega (arith, g.given.below.long), omega (arith, few-rules), g.eight)
        go (parameter j) h q = (omega (arith, ltb→lt j rank h, (g.given.proper.proper g.number g.given.inside).rank), g.eight)
        go nothing h q = absurd h

    -- the stack after the node
    pub scan-more : (x : ℕ) → LanesAre lanes x (λ p. name_states δ (call_in tables present) (8 * choice + p) (lanes_at p children) (name f)) → (low' : ℕ) → low' ≡ low + k - 1
        → Scanning left low' (set stack low' x)
    unfolding scanned
    scan-more x made low' at =
        let n : suc low' ≡ low + k = omega (arith, room) in
        let inside : low' < length stack = omega (arith, s.long, room) in
        let pushed : drop low' (set stack low' x) ≡ x ∷ drop k xs =
        drop-cons (set stack low' x) low' 0 (omega (arith, length-set stack low' x))
        ∙ rw (get_or-set_same stack low' x 0 inside, drop-set-lt (suc low') stack low' x (omega arith), n, drop-drop k low stack) in
        record {
          upto = omega (arith, s.upto);
          long = length-set stack low' x ∙ s.long;
          deep = omega (arith, room);
          shallow = omega (arith, s.shallow, trees.2, room, s.upto);
          whole = trees.1 ∙ ap exactly (omega (arith, trees.3, trees.2, room));
          sets = λ p h. (
              let before = s.sets p h in
              rw (pushed, split)
              (ap₂ (λ (y : ℕ) (ys : List ℕ). y ∷ ys)
              (made p h ∙ ap (λ (ms : List ℕ). name_states δ (call_in tables present) (8 * choice + p) ms (name f)) (map-take (λ y. lane y p) k xs ∙ ap (take k) before))
              (map-drop (λ y. lane y p) k xs ∙ ap (drop k) before))
              );
        }

    -- the same by what the code calls its name, its rank and its children
    module _ {x : Name} {n : ℕ} (called : x ≡ name f) (ranked : n ≡ name_rank alphabet (ruled_by ranks) x) where
      pub rank-read : n ≡ k
      unfolding rank_in
      rank-read =
          ranked ∙ ap (name_rank alphabet (ruled_by ranks)) called
          ∙ node.rank-lower alphabet ranks g.given.rules g.number rank g.given.noted.rank (name f) named

      pub ready_as : (ys : List ℕ) → ys ≡ take n xs → NodeReady alphabet tables ys lanes x
      ready_as ys d = rw (d, rank-read, called) ready

      pub scan_more_as : (ys : List ℕ) → ys ≡ take n xs → (y : ℕ) → LanesAre lanes y (λ p. name_states δ (call_in tables present) (8 * choice + p) (lanes_at p ys) x)
          → (low' : ℕ) → low' ≡ low + n - 1 → Scanning left low' (set stack low' y)
      scan_more_as ys d y made low' at = scan-more y (rw (d, rank-read, called) at made) low' (rw rank-read at at)

  -- The flags and the tables of the lower rules.

  abbrev flag : ℕ → ℕ → Bool
  flag r j = ltb j (rule_rank g.given.rules r) && get_or present (highest_rank * r + j) false

  module _ (r : ℕ) (h : r < g.number) (j : ℕ) where
    abbrev called : ℕ
    called = rule_rank g.given.rules r

    abbrev standing : ℕ → Bool
    standing = stands (rule_sifted alphabet g.given.rules r).nodes

    flag_is : flag r j ≡ get_or (tabulate called standing) j false
    flag_is = go (dec_lt j called)
      where
        go : Dec (j < called) → ltb j called && get_or present (highest_rank * r + j) false ≡ get_or (tabulate called standing) j false
        go (yes l) = rw (lt-ltb j called l) (g.given.noted.stand r j h l ∙ sym (get_d_tabulate called standing false j l))
        go (no l) =
            rw (le-ltb j called (omega arith)) (sym (get_or-eq_default (tabulate called standing) false (omega (arith, length-tabulate called standing))))

    exact : (flag r j ≡ true) ↔ Occurs alphabet g.given.rules r j
    unfolding is_present sifted.present
    exact =
        let inside : r < length g.given.rules = omega (arith, g.given.inside) in
        rw (flag_is) (rw (sifted_at alphabet g.given.rules (length g.given.rules) r inside) at (presence alphabet g.given.rules g.given.proper r inside j))

  calls : (r : ℕ) → r < g.number → (ms : List ℕ) → length ms ≡ rule_rank g.given.rules r
      → call_in tables present r ms ≡ call_states (rule_table alphabet g.given.rules δ (state_count automaton) r) (entered (flag r) ms)
  calls r h ms e =
      rw (e, table_part alphabet g.given.rules δ (state_count automaton) tables r (omega (arith, g.given.below.long)) (λ c l. g.given.below.bytes r c h l))

  -- all nodes
  pub scan-all : {left low : ℕ} {stack : List ℕ} → left ≡ 0 → Scanning left low stack → (low < most_nodes) × SideRelated g (get_or stack low 0)
  scan-all {left} {low} {stack} z s' =
      let s : Scanning 0 low stack = subst (λ (n : ℕ). Scanning n low stack) z s' in
      let w : exactly (most_nodes - low) ≡ exactly 1 = sym s.whole ∙ rw g.given.rule_nodes (g.given.proper.proper g.number g.given.inside).whole in
      let one : most_nodes - low ≡ 1 = cc in
      let sound = automaton_sound alphabet automaton (alphabet_passed alphabet g.given.alphabet-passes).few (automaton_passed alphabet automaton g.given.automaton_passes) in
      let top : drop low stack ≡ get_or stack low 0 ∷ drop (suc low) stack = drop-cons stack low 0 (omega (arith, s.long)) in (
        omega arith,
        λ p h. (
            let byte : after p 0 ≡ table_byte alphabet g.given.rules δ (state_count automaton) g.number (8 * choice + p) ∷ [] =
            rw g.given.rule_nodes
            (byte-scan alphabet g.given.rules g.given.proper δ (state_count automaton) sound g.number g.given.inside flag exact (call_in tables present) calls (8 * choice + p) (g.choices p h)) in
            ap (λ (ms : List ℕ). get_or ms 0 0) (sym (ap (lanes_at p) top) ∙ s.sets p h ∙ byte)
            ),
      )

-- the part of the stack that a node is given
pub node_part : (stack : List ℕ) (low n : ℕ) → take (low + n - low) (drop low stack) ≡ take n (drop low stack)
node_part stack low n =
    let e : low + n - low ≡ n = omega arith in
    rw e
