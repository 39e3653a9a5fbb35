-- The pass over the nodes of a right side: what is written, and which flags are left, are those of the definition after as many nodes.
use mathlib.Core.Path.{◌≡◌, refl, sym, ◌∙◌, ap, ap₂}
use mathlib.Core.Bool.{Bool, true, false, cond, not, ◌&&◌}
use mathlib.Core.List.{List, [], ◌∷◌, ◌++◌, append-nil}
use Prim.Native.Nat.{ℕ, suc, ◌+◌, ◌-◌, ◌≤◌, ◌<◌}
use native.Mathlib.Omega.{arith}
use native.Mathlib.Decide.{dec_lt}
use native.Mathlib.Numerals.{add-one}
use lib.Dec.{T, ltb→lt}
use lib.ListN.{length, get_or, take, drop, set, replicate, length-append, length-drop, length-set, get_or-replicate, get_or-append}
use lib.Seq.{drop-cons, drop-length, take-suc-set, ext_get_or, get_or-drop, get_or-append-add}
use Rattle.terms.specs.Tree.{exactly, wholes}
use Rattle.terms.specs.Grammar.{Name, terminal, nonterminal, parameter, nothing, name, Rule, rule_at, terminal_rank, rule_rank, name_rank, rank_in, allowed}
use Rattle.terms.specs.Check.{most_nodes, highest_rank}
use Rattle.terms.proofs.Test.{all_at, is_true}
use Rattle.terms.proofs.Tabulate.{get_d_tabulate}
use Rattle.terms.proofs.Tree.Whole.{taken}
use Rattle.nodes.specs.Nodes.{ruled_by, HasRank}
use Rattle.nodes.proofs.Node.{has-rank, rank-lower}
use Rattle.cleaning_terms.specs.Cleaning.{lone, stands, present, keeps, stays, sift, sifted_rules, rule_sifted}
use Rattle.cleaning_terms.proofs.Sifted.{sifted_at, sifted_rank}
use Rattle.cleaning_terms.proofs.Turn.{child_flags, length-children, sift-turn, flags_next, flags_few}
use Rattle.cleaning.specs.declared.notes.Notes.{Notes}
use Rattle.cleaning.specs.Sifting.{CanKeep, child_kept, node_stays, ChildrenFlagged, Side, kept_nodes}

module _ {alphabet : List ℕ} {notes : Notes} {nodes : List ℕ} {room : ℕ} (g : Side alphabet notes nodes room) where
  -- the lower rules, sifted
  abbrev lower : List Rule
  lower = sifted_rules alphabet g.rules g.number

  abbrev rank_of : ℕ → ℕ
  rank_of = rank_in alphabet g.rules

  -- the nodes before a place are passed, and a flag is there for each tree that is still to come
  pub record Sifting (at low count : ℕ) (flags : List Bool) (kept : List ℕ) : Type 0 where
    pub within : at ≤ length nodes
    pub all : length flags ≡ most_nodes
    pub inside : low ≤ most_nodes
    pub whole : wholes rank_of (drop at nodes) ≡ exactly (most_nodes - low)
    pub few : count ≤ at
    pub long : length kept ≡ room
    pub written : take count kept ++ sift alphabet lower (drop low flags) (drop at nodes) ≡ kept_nodes g

  pub none_sifted : (kept : List ℕ) → length kept ≡ room → Sifting 0 127 0 (replicate most_nodes true) kept
  none_sifted kept long = record {
    within = omega arith;
    all = refl;
    inside = omega arith;
    whole = rw g.rule_nodes (g.proper.proper g.number g.inside).whole;
    few = omega arith;
    long = long;
    written = refl;
  }

  -- one node
  module _ {at low count : ℕ} {flags : List Bool} {kept : List ℕ} (s : Sifting at low count flags kept) (more : at < length nodes) where
    abbrev m : ℕ
    m = get_or nodes at 0

    abbrev k : ℕ
    k = rank_of m

    abbrev behind : List ℕ
    behind = drop (suc at) nodes

    split : drop at nodes ≡ m ∷ behind
    split = drop-cons nodes at 0 more

    named : T (allowed alphabet g.number (rule_rank g.rules g.number) (name m))
    named =
        let p = (g.proper.proper g.number g.inside).allowed in
        all_at (λ n. allowed alphabet g.number (rule_rank g.rules g.number) (name n)) nodes 0 (rw g.rule_nodes p) at more

    pub node-ranked : HasRank (length alphabet) (name m)
    node-ranked = has-rank alphabet g.number (rule_rank g.rules g.number) (name m) (is_true _ named) (omega (arith, g.inside, g.proper.few))

    node-rank : name_rank alphabet (ruled_by notes.ranks) (name m) ≡ k
    unfolding rank_in
    node-rank = rank-lower alphabet notes.ranks g.rules g.number _ g.noted.rank (name m) named

    -- a rule that is called is below, and its sifted rule is noted
    module _ {r : ℕ} (l : r < g.number) where
      sifted_rule_lem : rule_at lower r ≡ rule_sifted alphabet g.rules r
      sifted_rule_lem = sifted_at alphabet g.rules g.number r l

      low-rank : rule_rank g.rules r ≤ highest_rank
      low-rank = (g.proper.proper r (omega (arith, g.inside))).rank

    same_rank : rank_in alphabet lower m ≡ k
    unfolding rank_in
    same_rank = sifted_rank alphabet g.rules g.number (name m) named

    -- the flags of its children can be read
    can_keep : (j : ℕ) → j < k → CanKeep (name m) j
    unfolding rank_in
    can_keep j h = go (name m) named h
      where
        go : (x : Name) → T (allowed alphabet g.number (rule_rank g.rules g.number) x) → j < name_rank alphabet g.rules x → CanKeep x j
        go (terminal f) a h = tt
        go (nonterminal r) a h = let l = ltb→lt r g.number a in omega (arith, low-rank l, g.inside, g.proper.few)
        go (parameter i) a h = tt
        go nothing a h = tt

    can_stay : CanKeep (name m) 0
    can_stay = go (name m) named
      where
        go : (x : Name) → T (allowed alphabet g.number (rule_rank g.rules g.number) x) → CanKeep x 0
        go (terminal f) a = tt
        go (nonterminal r) a = omega (arith, ltb→lt r g.number a, g.inside, g.proper.few)
        go (parameter i) a = tt
        go nothing a = tt

    -- what is noted says which children are kept, and whether the node stays

    child_flag : (b : Bool) (j : ℕ) → j < k → get_or (child_flags alphabet lower b m) j false ≡ child_kept notes.present b (name m) j
    unfolding rank_in present
    child_flag false j h = get_or-replicate (rank_in alphabet lower m) j false false (omega (arith, same_rank))
    child_flag true j h = go (name m) named h
      where
        go : (x : Name) → T (allowed alphabet g.number (rule_rank g.rules g.number) x) → j < name_rank alphabet g.rules x
            → get_or (keeps alphabet lower x) j false ≡ child_kept notes.present true x j
        go (terminal f) a h = get_or-replicate (terminal_rank alphabet f) j true false h
        go (nonterminal r) a h =
            let l = ltb→lt r g.number a in
            ap (λ (q : Rule). get_or (present q) j false) (sifted_rule_lem l)
            ∙ get_d_tabulate (rule_rank g.rules r) (stands (rule_sifted alphabet g.rules r).nodes) false j h ∙ sym (g.noted.stand r j l h)
        go (parameter i) a h = absurd (omega arith)
        go nothing a h = absurd (omega arith)

    node_stays_lem : (b : Bool) → node_stays notes.alone b (name m) ≡ (b && stays lower (name m))
    node_stays_lem false = refl
    node_stays_lem true = go (name m) named
      where
        go : (x : Name) → T (allowed alphabet g.number (rule_rank g.rules g.number) x) → node_stays notes.alone true x ≡ stays lower x
        go (terminal f) a = refl
        go (nonterminal r) a =
            let l = ltb→lt r g.number a in
            ap not (g.noted.lone r l ∙ ap (λ (q : Rule). lone q.nodes) (sym (sifted_rule_lem l)))
        go (parameter i) a = refl
        go nothing a = refl

    -- the flags

    some_flag : low < most_nodes
    unfolding wholes
    some_flag =
        let t = taken k (most_nodes - low) (wholes rank_of behind) (rw split at s.whole) in
        omega (arith, t.left)

    abbrev flag : Bool
    flag = get_or flags low false

    abbrev later : List Bool
    later = drop (suc low) flags

    flags_split : drop low flags ≡ flag ∷ later
    flags_split = drop-cons flags low false (omega (arith, s.all, some_flag))

    later_length : length later ≡ most_nodes - suc low
    later_length = length-drop (suc low) flags ∙ ap (λ n. n - suc low) s.all

    -- the flags that are left after the node
    abbrev left : List Bool
    left = child_flags alphabet lower flag m ++ later

    left-length : length left ≡ k + (most_nodes - suc low)
    left-length = omega (arith, length-append (child_flags alphabet lower flag m) later, length-children alphabet lower flag m, same_rank, later_length)

    left-whole : wholes rank_of behind ≡ exactly (length left)
    left-whole =
        let w : wholes rank_of (m ∷ behind) ≡ exactly (length (flag ∷ later)) =
        ap (wholes rank_of) (sym split) ∙ s.whole ∙ ap exactly (omega (arith, later_length, some_flag)) in
        flags_next rank_of flag (child_flags alphabet lower flag m) later m behind w (length-children alphabet lower flag m ∙ same_rank)

    -- there is room for the flags of the children
    rank-fits : k ≤ low
    rank-fits =
        let f = flags_few rank_of behind (length left) left-whole in
        omega (arith, left-length, length-drop (suc at) nodes, g.few, some_flag)

    module _ {low' : ℕ} (is : low' ≡ low + 1 - k) {flags' : List Bool} (d : ChildrenFlagged low' notes.present flag (name m) k flags flags') where
      flags_left : drop low' flags' ≡ left
      flags_left =
          let size : length (drop low' flags') ≡ length left = omega (arith, length-drop low' flags', d.long, s.all, left-length, rank-fits, some_flag) in
          ext_get_or false (drop low' flags') left size (λ i h. get_or-drop low' flags' i false ∙ each i (dec_lt i k))
        where
          each : (i : ℕ) → Dec (i < k) → get_or flags' (low' + i) false ≡ get_or left i false
          each i (yes h) =
              d.children i h ∙ sym (child_flag flag i h)
              ∙ sym (get_or-append (child_flags alphabet lower flag m) later false i (omega (arith, length-children alphabet lower flag m, same_rank)))
          each i (no h) =
              let j = i - k in
              let e : i ≡ length (child_flags alphabet lower flag m) + j = omega (arith, length-children alphabet lower flag m, same_rank) in
              let p : low' + i ≡ suc low + j = omega (arith, rank-fits) in
              d.behind (low' + i) (omega arith) ∙ ap (λ n. get_or flags n false) p
              ∙ sym (ap (λ n. get_or left n false) e ∙ get_or-append-add (child_flags alphabet lower flag m) later j false ∙ get_or-drop (suc low) flags j false)

      turn : {count' : ℕ} {kept' : List ℕ} → count' ≤ suc at → length kept' ≡ room
          → take count' kept' ≡ take count kept ++ cond (flag && stays lower (name m)) (m ∷ []) [] → Sifting (suc at) low' count' flags' kept'
      turn {count'} {kept'} few long e = record {
        within = omega arith;
        all = d.long ∙ s.all;
        inside = omega (arith, some_flag);
        whole = left-whole ∙ ap exactly (omega (arith, left-length, rank-fits, some_flag));
        few = few;
        long = long;
        written =
            rw (e, flags_left) (sym (sift-turn alphabet lower (take count kept) flag later m behind)
            ∙ sym (ap₂ (λ (fs : List Bool) (ns : List ℕ). take count kept ++ sift alphabet lower fs ns) flags_split split) ∙ s.written);
      }

      -- the node is written, or not
      node_kept : node_stays notes.alone flag (name m) ≡ true → Sifting (suc at) low' (suc count) flags' (set kept count m)
      node_kept b =
          turn (omega (arith, s.few)) (length-set kept count m ∙ s.long)
          (take-suc-set kept count m (omega (arith, s.few, s.long, g.fits)) ∙ rw (sym (node_stays_lem flag) ∙ b))

      node_dropped : node_stays notes.alone flag (name m) ≡ false → Sifting (suc at) low' count flags' kept
      node_dropped b = turn (omega (arith, s.few)) s.long (rw (sym (node_stays_lem flag) ∙ b) (sym (append-nil (take count kept))))

    -- the same by what the code calls its name and its rank
    module _ {x : Name} {n : ℕ} (called : x ≡ name m) (ranked : n ≡ name_rank alphabet (ruled_by notes.ranks) x) where
      rank-read : n ≡ k
      rank-read = ranked ∙ ap (name_rank alphabet (ruled_by notes.ranks)) called ∙ node-rank

      pub room-there : (low < most_nodes) × (n ≤ low)
      room-there = omega (arith, some_flag, rank-fits, rank-read)

      pub can_keep_as : (j : ℕ) → j < n → CanKeep x j
      can_keep_as j h = rw called (can_keep j (omega (arith, rank-read)))

      pub can_stay_as : CanKeep x 0
      can_stay_as = rw called can_stay

      module _ {low' : ℕ} (is : low' ≡ low + 1 - n) {flags' : List Bool} (d : ChildrenFlagged low' notes.present flag x n flags flags') where
        is-there : low' ≡ low + 1 - k
        is-there = is ∙ ap (λ (j : ℕ). low + 1 - j) rank-read

        flagged : ChildrenFlagged low' notes.present flag (name m) k flags flags'
        flagged = rw (called, rank-read) at d

        pub kept_as : node_stays notes.alone flag x ≡ true → Sifting (at + 1) low' (count + 1) flags' (set kept count m)
        kept_as b =
            let e : count + 1 ≡ suc count = omega arith in
            rw (add-one, e) (node_kept is-there flagged (rw called at b))

        pub dropped_as : node_stays notes.alone flag x ≡ false → Sifting (at + 1) low' count flags' kept
        dropped_as b = rw add-one (node_dropped is-there flagged (rw called at b))

  -- all nodes
  pub all_sifted : {at low count : ℕ} {flags : List Bool} {kept : List ℕ} → Sifting at low count flags kept → length nodes ≤ at → take count kept ≡ kept_nodes g
  unfolding sift
  all_sifted {at} {low} {count} {flags} {kept} s most =
      let z : at ≡ length nodes = omega (arith, s.within) in
      let e : drop at nodes ≡ [] = rw z (drop-length nodes) in
      sym (append-nil (take count kept)) ∙ rw e at s.written
