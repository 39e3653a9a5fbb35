-- The nodes of a right side from the last to the first: the stack of cells represents the model's stack of skeletons.
use mathlib.Core.Path.{◌≡◌, refl, sym, subst, ap, ◌∙◌}
use mathlib.Core.List.{List, [], ◌∷◌}
use Prim.Native.Nat.{ℕ, zero, suc, ◌+◌, ◌*◌, ◌-◌, ◌≤◌, ◌<◌}
use native.Mathlib.Omega.{arith}
use lib.Dec.{T, ltb→lt}
use lib.ListN.{length, get_or, drop, take, set, length-drop, length-set}
use lib.Seq.{drop-cons, get_or-drop, drop-drop, drop-set-lt, get_or-set_same, length-take-le}
use Rattle.terms.specs.Tree.{exactly, taking, wholes}
use Rattle.terms.specs.Grammar.{Name, terminal, nonterminal, parameter, nothing, name, rule_rank, name_rank, rank_in, allowed, sum_over}
use Rattle.terms.specs.Form.{share, side_bound}
use Rattle.terms.specs.Check.{most_rules, most_nodes}
use Rattle.terms.proofs.Test.{all_at, is_true}
use Rattle.terms.proofs.Grammar.Sum.{sum_over_drop}
use Rattle.terms.proofs.Scan.{some-whole}
use Rattle.terms.proofs.Tree.Whole.{taken}
use Rattle.skeletons.specs.Skeleton.{Skeletons, param, nil, cons}
use Rattle.skeletons.specs.Make.{Mades, name-made}
use Rattle.skeletons.specs.Scan.{top, pop, turn, scan}
use Rattle.skeletons.specs.Skeleton.{size, weight}
use Rattle.cells.specs.Cells.{Stands, Row}
use Rattle.cells.specs.Builder.{Room, Grown, Stood}
use Rattle.cells.specs.declared.builder.FormBuilder.{FormBuilder}
use Rattle.cells.specs.declared.cells.Cell.{Cell}
use Rattle.contraction.specs.Substitution.{Bounded, StoodRow}
use Rattle.right_sides.specs.Side.{NodeReady, NodeMade, RightSide, side_made}
use Rattle.nodes.specs.Nodes.{ruled_by, HasRank}
use Rattle.nodes.proofs.Node as node
use Rattle.cells.proofs.Standing.{row_at}
use Rattle.cells.proofs.Adding.{grown-none, grown-then, grown_less, grown-within, grown-stands, grown_rows, room_less}

-- the cells that a node takes, and those that it leaves

size_top : (k : ℕ) (ss : Skeletons) → k ≤ size ss → size (top k ss) ≡ k
size_top zero ss h = refl
size_top (suc k) nil h = absurd (omega arith)
size_top (suc k) (cons s ss) h = ap suc (size_top k ss (omega arith))

size-pop : (k : ℕ) (ss : Skeletons) → size (pop k ss) ≡ size ss - k
size-pop zero ss = omega arith
size-pop (suc k) nil = omega arith
size-pop (suc k) (cons s ss) = omega (arith, size-pop k ss)

module _ (cells : List Cell) (limit : ℕ) where
  row-top : (k : ℕ) (xs : List ℕ) (ss : Skeletons) → Row cells limit xs ss → Row cells limit (take k xs) (top k ss)
  row-top zero xs ss p = tt
  row-top (suc k) xs nil p = tt
  row-top (suc k) [] (cons s ss) p = absurd p
  row-top (suc k) (x ∷ xs) (cons s ss) p = (p.0, p.1, row-top k xs ss p.2)

  row-pop : (k : ℕ) (xs : List ℕ) (ss : Skeletons) → Row cells limit xs ss → Row cells limit (drop k xs) (pop k ss)
  row-pop zero xs ss p = p
  row-pop (suc k) xs nil p = tt
  row-pop (suc k) [] (cons s ss) p = absurd p
  row-pop (suc k) (x ∷ xs) (cons s ss) p = row-pop k xs ss p.2

module _ {b₀ : FormBuilder} {alphabet ranks roots nodes : List ℕ} (g : RightSide b₀ alphabet ranks roots nodes) where
  abbrev rank_of : ℕ → ℕ
  rank_of = rank_in alphabet g.rules

  -- what is made of the nodes from a place on
  abbrev after : ℕ → Mades
  after left = scan rank_of g.skeleton (drop left nodes) g.made

  pub record Scanning (left low : ℕ) (b : FormBuilder) (stack : List ℕ) : Type 0 where
    pub upto : left ≤ length nodes
    pub long : length stack ≡ most_nodes
    pub stood : StoodRow (after left) b (drop low stack)
    pub depth : size (after left).made + low ≡ most_nodes
    pub whole : wholes rank_of (drop left nodes) ≡ exactly (size (after left).made)
    pub shallow : size (after left).made + left ≤ length nodes
    pub grown : Grown (side_bound g.rules (drop left nodes)) (4 * (length nodes - left)) b₀ b
    pub few-cells : b.next_cell + 3 * size (after left).made ≤ b₀.next_cell + 4 * (length nodes - left)

  nothing_left : (left : ℕ) → left ≡ length nodes → drop left nodes ≡ []
  nothing_left left e = rw e (drop_all nodes)
    where
      drop_all : (xs : List ℕ) → drop (length xs) xs ≡ []
      drop_all [] = refl
      drop_all (x ∷ xs) = drop_all xs

  pub scan-none : (left low : ℕ) (stack : List ℕ) → left ≡ length nodes → low ≡ most_nodes → length stack ≡ most_nodes → Scanning left low b₀ stack
  unfolding scan wholes
  scan-none left low stack e z long =
      let n = nothing_left left e in
      record {
        upto = omega arith;
        long = long;
        stood = rw n record { held = g.held; counted = g.counted; row = tt };
        depth = rw n (omega arith);
        whole = rw n refl;
        shallow = rw n (omega arith);
        grown = grown-none;
        few-cells = rw n (omega arith);
      }

  -- one node
  module _ (left : ℕ) {left₀ low : ℕ} {b : FormBuilder} {stack : List ℕ} (e : left₀ ≡ suc left) (s' : Scanning left₀ low b stack) where
    s : Scanning (suc left) low b stack
    s = subst (λ (n : ℕ). Scanning n low b stack) e s'

    abbrev f : ℕ
    f = get_or nodes left 0

    abbrev k : ℕ
    k = rank_of f

    abbrev m : Mades
    m = after (suc left)

    -- the cells that the node takes
    abbrev xs : List ℕ
    xs = take k (drop low stack)

    split : drop left nodes ≡ f ∷ drop (suc left) nodes
    split = drop-cons nodes left 0 (omega (arith, s.upto))

    -- how many rules the node may add
    abbrev adds : Name → ℕ
    adds = share (rule_rank g.rules)

    bound_split : side_bound g.rules (drop left nodes) ≡ adds (name f) + side_bound g.rules (drop (suc left) nodes)
    bound_split = ap (sum_over adds) split

    -- the stack has as many skeletons as the node takes
    trees : (n : ℕ) × (wholes rank_of (drop left nodes) ≡ exactly n) × (k ≤ size m.made) × (n ≡ suc (size m.made - k))
    unfolding wholes
    trees =
        let p = (g.proper.proper g.number g.inside).whole in
        let (n, w) = some-whole rank_of nodes left 1 (rw g.rule_nodes p) in
        let w₁ : taking k (wholes rank_of (drop (suc left) nodes)) ≡ exactly n = rw split at w in
        let t = taken k n (wholes rank_of (drop (suc left) nodes)) w₁ in
        let was : exactly t.trees ≡ exactly (size m.made) = sym t.was ∙ s.whole in
        let z : t.trees ≡ size m.made = cc in
        (n, w, rw z at t.enough, rw z at t.left)

    enough : k ≤ size m.made
    enough = trees.2

    named : T (allowed alphabet g.number (rule_rank g.rules g.number) (name f))
    named =
        let p = (g.proper.proper g.number g.inside).allowed in
        all_at (λ n. allowed alphabet g.number (rule_rank g.rules g.number) (name n)) nodes 0 (rw g.rule_nodes p) left (omega (arith, s.upto))

    few-rules : g.number < most_rules
    few-rules = omega (arith, g.inside, g.proper.few)

    pub node-ranked : HasRank (length alphabet) (name f)
    node-ranked = node.has-rank alphabet g.number (rule_rank g.rules g.number) (name f) (is_true _ named) (omega (arith, few-rules))

    -- its rank by the known ranks
    pub node-rank : name_rank alphabet (ruled_by ranks) (name f) ≡ k
    unfolding rank_in
    node-rank = node.rank-lower alphabet ranks g.rules g.number (rule_rank g.rules g.number) g.known.rank (name f) named

    rule-rank : (r : ℕ) → r < g.number → rule_rank g.rules r ≤ 4
    rule-rank r h = (g.proper.proper r (omega (arith, g.inside))).rank

    pub node-low : k ≤ 4
    unfolding rank_in
    node-low = go (name f) named
      where
        go : (x : Name) → T (allowed alphabet g.number (rule_rank g.rules g.number) x) → name_rank alphabet g.rules x ≤ 4
        go (terminal a) h = g.low a
        go (nonterminal r) h = rule-rank r (ltb→lt r g.number h)
        go (parameter j) h = omega arith
        go nothing h = omega arith

    -- there is room for what the node makes
    room-here : Room (adds (name f)) (1 + 3 * k) b
    room-here = record {
      fits = omega (arith, g.room.fits, s.grown.few-rules, s.grown.long, bound_split, sum_over_drop adds left nodes);
      numbers = omega (arith, g.room.numbers, s.grown.few-rules, bound_split, sum_over_drop adds left nodes);
      left = omega (arith, g.room.left, s.few-cells, s.upto, enough);
    }

    weighs : (r : ℕ) → r < g.number → rule_rank g.rules r ≡ k → weight (g.skeleton r) ≤ 1 + 3 * k
    weighs r h q = omega (arith, g.known.light r h, rule-rank r h)

    root_stands : (r : ℕ) → r < g.number → Stands b.cells (get_or roots r 0) (g.skeleton r)
    root_stands r h = grown-stands s.grown (get_or roots r 0) (g.skeleton r) (g.known.lower r h) (g.known.stands r h)

    taken-row : Row b.cells b.next_cell xs (top k m.made)
    taken-row = row-top b.cells b.next_cell k (drop low stack) m.made s.stood.row

    taken-size : size (top k m.made) ≡ k
    taken-size = size_top k m.made enough

    taken-long : length xs ≡ k
    taken-long = length-take-le k (drop low stack) (omega (arith, length-drop low stack, s.long, s.depth, enough))

    fitting : (r : ℕ) → r < g.number → rule_rank g.rules r ≡ k → Bounded (size (top k m.made)) (g.skeleton r)
    fitting r h q = subst (λ (n : ℕ). Bounded n (g.skeleton r)) (q ∙ sym taken-size) (g.known.bounded r h)

    own-parameter : (j : ℕ) → T (allowed alphabet g.number (rule_rank g.rules g.number) (parameter j)) → j < 4
    own-parameter j h = omega (arith, ltb→lt j (rule_rank g.rules g.number) h, (g.proper.proper g.number g.inside).rank)

    pub ready : NodeReady b roots xs (name f)
    unfolding rank_in
    ready = go (name f) named refl room-here
      where
        go : (x : Name) → T (allowed alphabet g.number (rule_rank g.rules g.number) x) → name_rank alphabet g.rules x ≡ k
            → Room (adds x) (1 + 3 * k) b → NodeReady b roots xs x
        go (terminal a) h q room = (
          room_less (omega arith) (omega arith) room,
          record {
            few = omega (arith, taken-long, node-low);
            each = λ j l. (row_at b.cells b.next_cell xs (top k m.made) taken-row j (omega (arith, taken-long, taken-size))).0;
          },
        )
        go (nonterminal r) h q room =
            let l = ltb→lt r g.number h in (
              omega (arith, few-rules),
              record {
                skeleton = g.skeleton r;
                arguments = top k m.made;
                stands = root_stands r l;
                lower = omega (arith, g.known.lower r l, s.grown.more-cells);
                row = taken-row;
                bounded = fitting r l q;
                room = room_less (g.known.light r l) (weighs r l q) room;
              },
            )
        go (parameter j) h q room = own-parameter j h
        go nothing h q room = absurd h

    -- what the node makes is what the model makes

    abbrev taking_these : Mades
    taking_these = record { rules = m.rules; made = top k m.made }

    record NodeDone (b' : FormBuilder) (cell : ℕ) : Type 0 where
      pub grown : Grown (adds (name f)) (1 + 3 * k) b b'
      pub stood : Stood (name-made g.skeleton (name f) taking_these) b' cell

    done : (b' : FormBuilder) (cell : ℕ) → NodeMade b roots xs (name f) b' cell → NodeDone b' cell
    unfolding rank_in name-made
    done b' cell made =
        let d = go (name f) named refl made in
        record { grown = d.0; stood = d.1 }
      where
        go : (x : Name) → T (allowed alphabet g.number (rule_rank g.rules g.number) x) → name_rank alphabet g.rules x ≡ k
            → NodeMade b roots xs x b' cell → Grown (adds x) (1 + 3 * k) b b' × Stood (name-made g.skeleton x taking_these) b' cell
        go (terminal a) h q made = (
          grown_less (omega arith) (omega arith) made.grown,
          made.stood m.rules (top k m.made) s.stood.held s.stood.counted taken-row (taken-size ∙ sym taken-long),
        )
        go (nonterminal n) h q made =
            let l = ltb→lt n g.number h in (
              grown_less (g.known.light n l) (weighs n l q) (made.grown (g.skeleton n) (root_stands n l)),
              made.stood m.rules (g.skeleton n) (top k m.made) s.stood.held s.stood.counted (root_stands n l) taken-row (fitting n l q),
            )
        go (parameter j) h q made =
            rw (made.kept, made.cell) (
              grown-none,
              record {
                held = s.stood.held;
                counted = s.stood.counted;
                lower = omega (arith, own-parameter j h, g.known.four, s.grown.more-cells);
                stands = grown-stands s.grown j (param j) (omega (arith, own-parameter j h, g.known.four)) (g.known.parameters j (own-parameter j h));
              },
            )
        go nothing h q made = absurd h

    turned : after left ≡ turn rank_of g.skeleton f m
    unfolding scan
    turned = rw split

    pub low_enough : (1 ≤ low) × (low + k ≤ most_nodes)
    low_enough = (omega (arith, s.depth, s.shallow, g.few), omega (arith, s.depth, enough))

    -- the stack after the node
    pub scan-more : (b' : FormBuilder) (cell : ℕ) → NodeMade b roots xs (name f) b' cell → (low' : ℕ) → low' ≡ low + k - 1 → Scanning left low' b' (set stack low' cell)
    unfolding turn
    scan-more b' cell made low' at =
        let d = done b' cell made in
        let n : suc low' ≡ low + k = omega (arith, low_enough) in
        let inside : low' < length stack = omega (arith, s.long, low_enough) in
        let pushed : drop low' (set stack low' cell) ≡ cell ∷ drop k (drop low stack) =
        drop-cons (set stack low' cell) low' 0 (omega (arith, length-set stack low' cell))
        ∙ rw (get_or-set_same stack low' cell 0 inside, drop-set-lt (suc low') stack low' cell (omega arith), n, drop-drop k low stack) in
        let below = grown_rows d.grown (drop k (drop low stack)) (pop k m.made) (row-pop b.cells b.next_cell k (drop low stack) m.made s.stood.row) in
        let sized = size-pop k m.made in
        let few : b'.next_cell + 3 * suc (size (pop k m.made)) ≤ b₀.next_cell + 4 * (length nodes - left) = omega (arith, d.grown.few-cells, s.few-cells, s.upto, enough) in
        record {
          upto = omega (arith, s.upto);
          long = length-set stack low' cell ∙ s.long;
          stood = rw (turned, pushed) record { held = d.stood.held; counted = d.stood.counted; row = (d.stood.lower, d.stood.stands, below) };
          depth = rw turned (omega (arith, s.depth, enough, low_enough));
          whole = trees.1 ∙ rw turned (ap exactly (omega (arith, trees.3)));
          shallow = rw turned (omega (arith, s.shallow, enough));
          grown = grown-within (omega (arith, s.grown.few-rules, d.grown.few-rules, bound_split)) (omega arith) (grown-then s.grown d.grown);
          few-cells = rw turned few;
        }

    -- the same by what the code calls its name, its rank and its cells
    module _ {x : Name} {n : ℕ} (called : x ≡ name f) (ranked : n ≡ name_rank alphabet (ruled_by ranks) x) where
      pub rank-read : n ≡ k
      rank-read = ranked ∙ ap (name_rank alphabet (ruled_by ranks)) called ∙ node-rank

      pub children-fit : low + n ≤ length stack
      children-fit = omega (arith, rank-read, s.long, low_enough)

      taken-here : (ys : List ℕ) → ys ≡ take (low + n - low) (drop low stack) → ys ≡ xs
      taken-here ys e = e ∙ ap (λ (c : ℕ). take c (drop low stack)) (omega (arith, rank-read))

      pub ready_as : (ys : List ℕ) → ys ≡ take (low + n - low) (drop low stack) → NodeReady b roots ys x
      ready_as ys e = rw (taken-here ys e, called) ready

      pub scan_more_as : (ys : List ℕ) → ys ≡ take (low + n - low) (drop low stack) → (b' : FormBuilder) (cell : ℕ) → NodeMade b roots ys x b' cell
          → (low' : ℕ) → low' ≡ low + n - 1 → Scanning left low' b' (set stack low' cell)
      scan_more_as ys e b' cell made low' at = scan-more b' cell (rw (taken-here ys e, called) at made) low' (rw rank-read at at)

  -- all nodes
  pub scan-all : {left low : ℕ} {b : FormBuilder} {stack : List ℕ} → left ≡ 0 → Scanning left low b stack
      → (low < most_nodes) × Grown (side_bound g.rules nodes) (4 * length nodes) b₀ b × Stood (side_made g) b (get_or stack low 0)
  scan-all {left} {low} {b} {stack} z s' =
      let s : Scanning 0 low b stack = subst (λ (n : ℕ). Scanning n low b stack) z s' in
      let w : exactly (size (after 0).made) ≡ exactly 1 = sym s.whole ∙ rw g.rule_nodes (g.proper.proper g.number g.inside).whole in
      let one : size (after 0).made ≡ 1 = cc in
      let a = row_at b.cells b.next_cell (drop low stack) (after 0).made s.stood.row 0 (omega arith) in
      let at : get_or (drop low stack) 0 0 ≡ get_or stack low 0 = get_or-drop low stack 0 0 ∙ ap (λ n. get_or stack n 0) (omega arith) in
      (omega (arith, s.depth), grown_less (omega arith) (omega arith) s.grown, record { held = s.stood.held; counted = s.stood.counted; lower = rw at at a.0; stands = rw at at a.1 })
