-- The rules one after another: the table holds what the model makes of the first rules, and their cells represent the model's skeletons.
use mathlib.Core.Path.{◌≡◌, refl, sym, subst, ap, ◌∙◌}
use mathlib.Core.List.{List, []}
use Prim.Native.Nat.{ℕ, suc, ◌+◌, ◌*◌, ◌-◌, ◌≤◌, ◌<◌}
use native.Mathlib.Omega.{arith}
use borrow.Author.Count.{below_more}
use lib.ListN.{length, get_or, set, length-set}
use lib.Seq.{get_or-set_same, get_or-set_other}
use Rattle.terms.specs.Grammar.{Rule, rule_rank, node_count, rank_in, sum_rules}
use Rattle.terms.specs.Form.{side_bound, form_bound}
use Rattle.terms.specs.declared.Rule.{Rule as Number}
use Rattle.terms.specs.Sheet.{rules_body}
use Rattle.terms.specs.Check.{most_rules}
use Rattle.terms.specs.FormBytes.{rule_length}
use Rattle.terms.proofs.Sheet.Passed.{alphabet_passed}
use Rattle.terms.proofs.Form.Bound.{bound-linear}
use Rattle.terms.proofs.Form.Bytes.{rank_le}
use Rattle.skeletons.specs.Skeleton.{param, shut, nth}
use Rattle.skeletons.specs.Make.{Form, skeleton_of}
use Rattle.skeletons.specs.Scan.{scan, scanned}
use Rattle.skeletons.proofs.Result.{scanned-form}
use Rattle.grammars.proofs.Turns.{Left, none-read, Turn, read-all}
use Rattle.form_writing.specs.Bytes.{Holds}
use Rattle.cells.specs.Cells.{most_cells, cell_at, slot_for, Stands}
use Rattle.cells.specs.Builder.{Begun, Room, Grown, Stood}
use Rattle.cells.specs.declared.builder.FormBuilder.{FormBuilder}
use Rattle.right_sides.specs.Side.{Known, RightSide, SideMade}
use Rattle.right_sides.specs.Rules.{Grammar, model_of, RulesMade}
use Rattle.form_writing.proofs.Held.{held_none}
use Rattle.cells.proofs.Adding.{grown-stands}
use Rattle.right_sides.proofs.Lower.{old-skeleton, new-skeleton, lower-bounded, lower-light}

module _ {table₀ alphabet body : List ℕ} {count : ℕ} (g : Grammar table₀ alphabet body count) where
  abbrev rules : List Rule
  rules = (rules_body body).rules

  abbrev made : ℕ → Form
  made i = scanned alphabet rules i

  -- how many rules a right side may add
  abbrev bound : Rule → ℕ
  bound r = side_bound rules r.nodes

  -- the first i rules are made, and the others are left
  pub record Making (left : List ℕ) (i : ℕ) (b₀ b : FormBuilder) (ranks roots : List ℕ) : Type 0 where
    pub lent : b.table.ghost_name ≡ b₀.table.ghost_name
    pub read : Left body i left
    pub ranked : length ranks ≡ most_rules
    pub rooted : length roots ≡ most_rules
    pub known : Known b ranks roots rules i (skeleton_of (made i))
    pub held : Holds b.table.now (made i).rules
    pub counted : b.next_rule.0 ≡ length (made i).rules
    pub few-rules : b.next_rule.0 + sum_rules bound (rules_body left).rules ≤ form_bound rules
    pub few-cells : b.next_cell + 4 * node_count (rules_body left).rules ≤ 4 + 4 * node_count rules
    pub long : length b.table.now ≡ length table₀
    pub kept : (k : ℕ) → rule_length * b.next_rule.0 ≤ k → get_or b.table.now k 0 ≡ get_or table₀ k 0

  pub none_made : {b : FormBuilder} {ranks roots : List ℕ} → Begun b → b.table.now ≡ table₀ → length ranks ≡ most_rules → length roots ≡ most_rules → Making body 0 b b ranks roots
  unfolding scanned
  none_made {b} {ranks} {roots} p e ranked rooted = record {
    lent = refl;
    read = none-read body;
    ranked = ranked;
    rooted = rooted;
    known = record {
      rank = λ r h. absurd (omega arith);
      lower = λ r h. absurd (omega arith);
      stands = λ r h. absurd (omega arith);
      bounded = λ r h. absurd (omega arith);
      light = λ r h. absurd (omega arith);
      four = omega (arith, p.cell);
      parameters = p.parameters;
    };
    held = held_none b.table.now;
    counted = p.rule;
    few-rules = omega (arith, p.rule);
    few-cells = omega (arith, p.cell);
    long = ap length e;
    kept = λ k h. ap (λ (t : List ℕ). get_or t k 0) e;
  }

  module _ {left : List ℕ} {i : ℕ} {b₀ b : FormBuilder} {ranks roots : List ℕ} (s : Making left i b₀ b ranks roots) where
    -- there are few rules
    pub few-left : i + length (rules_body left).rules ≤ most_rules
    few-left = omega (arith, s.read.count, g.proper.few)

    -- one rule, which is the first of those that are left
    module _ {rule : Rule} {later : List ℕ} (t : Turn body i left rule later) where
      -- what the rules from here on may add
      bound_split : sum_rules bound (rules_body left).rules ≡ side_bound rules rule.nodes + sum_rules bound (rules_body later).rules
      bound_split = ap (sum_rules bound) t.first

      side_room : Room (side_bound rules rule.nodes) (4 * length rule.nodes) b
      side_room = record {
        fits = omega (arith, s.few-rules, s.long, bound_split, g.room);
        numbers = omega (arith, s.few-rules, bound_split, bound-linear alphabet rules g.proper, g.few);
        left = omega (arith, s.few-cells, t.parted, g.few);
      }

      pub side : RightSide b alphabet ranks roots rule.nodes
      side = record {
        rules = rules;
        number = i;
        made = (made i).rules;
        skeleton = skeleton_of (made i);
        proper = g.proper;
        low = rank_le alphabet (alphabet_passed alphabet g.alphabet).ranks;
        inside = t.inside;
        rule_nodes = ap (λ (r : Rule). r.nodes) (sym t.here);
        few = omega (arith, t.parted, s.read.nodes, g.few);
        known = s.known;
        held = s.held;
        counted = s.counted;
        room = side_room;
      }

      -- the next rule
      module _ {b' : FormBuilder} {cell : ℕ} (d : SideMade b alphabet ranks roots rule.nodes b' cell) where
        grown : Grown (side_bound rules rule.nodes) (4 * length rule.nodes) b b'
        unfolding side
        grown = d.grown side

        stood : Stood (record { rules = (made (suc i)).rules; made = skeleton_of (made (suc i)) i }) b' cell
        unfolding scanned side
        stood =
            rw (new-skeleton alphabet rules i)
            (subst (λ (ns : List ℕ). let m = scan (rank_in alphabet rules) (skeleton_of (made i)) ns (made i).rules in Stood (record { rules = m.rules; made = nth m.made 0 }) b' cell) (ap (λ (x : Rule). x.nodes) (sym t.here)) (d.stood side))

        known_next : Known b' (set ranks i rule.rank) (set roots i cell) rules (suc i) (skeleton_of (made (suc i)))
        known_next =
            let k = s.known in
            let i64 : i < most_rules = omega (arith, t.inside, g.proper.few) in
            let upto : suc i ≤ length rules = omega (arith, t.inside) in
            let rooted : i < length roots = omega (arith, s.rooted) in
            let here : get_or (set roots i cell) i 0 ≡ cell = get_or-set_same roots i cell 0 rooted in
            let other : (n : ℕ) → n < i → get_or (set roots i cell) n 0 ≡ get_or roots n 0 = λ n h. get_or-set_other roots i n cell 0 (λ q. omega arith) in
            record {
              rank = up (λ n. get_or (set ranks i rule.rank) n 0 ≡ rule_rank rules n)
                  (λ n h. get_or-set_other ranks i n rule.rank 0 (λ q. omega arith) ∙ k.rank n h)
                  (get_or-set_same ranks i rule.rank 0 (omega (arith, s.ranked)) ∙ ap (λ (x : Rule). x.rank) (sym t.here));
              lower = up (λ n. get_or (set roots i cell) n 0 < b'.next_cell)
                  (λ n h. rw (other n h) (omega (arith, k.lower n h, grown.more-cells)))
                  (rw here stood.lower);
              stands = up (λ n. Stands b'.cells (get_or (set roots i cell) n 0) (skeleton_of (made (suc i)) n))
                  (λ n h. rw (other n h, old-skeleton alphabet rules i n h) (grown-stands grown (get_or roots n 0) (skeleton_of (made i) n) (k.lower n h) (k.stands n h)))
                  (rw here stood.stands);
              bounded = λ n h. lower-bounded alphabet rules g.proper (suc i) upto n h;
              light = λ n h. lower-light alphabet rules g.proper (suc i) upto n h;
              four = omega (arith, k.four, grown.more-cells);
              parameters = λ j h. grown-stands grown j (param j) (omega (arith, k.four)) (k.parameters j h);
            }
          where
            up : (P : ℕ → Type 0) → ((n : ℕ) → n < i → P n) → P i → (n : ℕ) → n < suc i → P n
            up P old new n h = below_more P i old new n (omega arith)

        pub rule-made : {i' : ℕ} → i' ≡ i + 1 → Making later i' b₀ b' (set ranks i rule.rank) (set roots i cell)
        rule-made {i'} p =
            let z : i' ≡ suc i = omega arith in
            rw z
            record {
              lent = grown.lent ∙ s.lent;
              read = subst (λ (n : ℕ). Left body n later) (omega arith) t.next;
              ranked = length-set ranks i rule.rank ∙ s.ranked;
              rooted = length-set roots i cell ∙ s.rooted;
              known = known_next;
              held = stood.held;
              counted = stood.counted;
              few-rules = omega (arith, grown.few-rules, s.few-rules, bound_split);
              few-cells = omega (arith, grown.few-cells, s.few-cells, t.parted);
              long = grown.long ∙ s.long;
              kept = λ n h. grown.behind n h ∙ s.kept n (omega (arith, grown.more-rules));
            }

  -- all rules
  module _ {left : List ℕ} {i : ℕ} {b₀ b : FormBuilder} {ranks roots : List ℕ} (s : Making left i b₀ b ranks roots) (none : (rules_body left).rules ≡ []) where
    final : Making left (length rules) b₀ b ranks roots
    final = subst (λ (n : ℕ). Making left n b₀ b ranks roots) (sym (read-all s.read none)) s

    last : length rules - 1 < length rules
    last = omega (arith, g.proper.some)

    pub start-lower : (n : ℕ) → n ≡ count - 1 → get_or roots n 0 < b.next_cell
    start-lower n e =
        let z : n ≡ length rules - 1 = omega (arith, g.count) in
        rw z (final.known.lower (length rules - 1) last)

    pub cells_fit : b.next_cell ≤ most_cells
    cells_fit = omega (arith, s.few-cells, g.few)

    -- the start's cell represents a rule of the form
    pub begins : (n : ℕ) → n ≡ count - 1 → skeleton_of (model_of alphabet rules) (length rules - 1) ≡ shut (slot_for (cell_at b.cells (get_or roots n 0)))
    begins n e =
        let z : n ≡ length rules - 1 = omega (arith, g.count) in
        let f = scanned-form alphabet rules g.proper in
        let p : Stands b.cells (get_or roots (length rules - 1) 0) (shut f.0) = rw f.1 at (final.known.stands (length rules - 1) last) in
        rw (z, p) f.1

    pub finished : {n : ℕ} {start : Number} {table : List ℕ} → n ≡ count - 1 → start.0 ≡ slot_for (cell_at b.cells (get_or roots n 0)) → table ≡ b.table.now
        → RulesMade table₀ alphabet body table (record { count = b.next_rule; start = start })
    finished {n} e is there =
        rw there
        record {
          held = final.held;
          counted = final.counted;
          begun = rw is (begins n e);
          long = final.long;
          behind = final.kept;
        }
