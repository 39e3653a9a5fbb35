-- Instances of the children of a cell, the last one first, are steps of the model, and so is the terminal over them.
use mathlib.Core.Path.{◌≡◌, refl, sym, subst, ap, ◌∙◌}
use mathlib.Core.List.{List, [], ◌∷◌}
use Prim.Native.Nat.{ℕ, zero, suc, ◌+◌, ◌≤◌, ◌<◌}
use native.Mathlib.Omega.{arith}
use native.Mathlib.Decide.{dec_lt}
use lib.ListN.{length, get_or, drop, take, set, length-set}
use lib.Seq.{drop-cons, drop-set-lt, get_or-set_same, get_or-set_other, length-take-le}
use Rattle.terms.specs.Form.{Rule}
use Rattle.terms.specs.declared.Terminal.{Terminal as Symbol}
use Rattle.skeletons.specs.Skeleton.{Skeleton, Skeletons, param, shut, under, branch, nil, cons, size, weight, weights}
use Rattle.skeletons.specs.Make.{substitute, substitutes}
use Rattle.form_writing.specs.Bytes.{Holds}
use Rattle.cells.specs.Cells.{cell_at, Stands, Row}
use Rattle.cells.specs.Builder.{Room, Grown, Stood}
use Rattle.cells.specs.declared.builder.FormBuilder.{FormBuilder}
use Rattle.cells.specs.declared.cells.Cell.TheVariants.{Terminal}
use Rattle.contraction.specs.Terminal.{TerminalContracted}
use Rattle.contraction.specs.Substitution.{Bounded, AllBounded, Instance, Instanced, StoodRow}
use Rattle.cells.proofs.Standing.{row-long}
use Rattle.cells.proofs.Adding.{grown-none, grown-then, grown_less, grown-stands, grown_rows, room-left, room_less}

module _ (b : FormBuilder) (xs : List ℕ) (cell rank : ℕ) (ys : List ℕ) where
  -- the children from child j on represent skeletons
  pub record From (j : ℕ) (us : Skeletons) : Type 0 where
    pub row : Row b.cells cell (drop j ys) us
    pub count : size us + j ≡ rank

  -- they are to be instances
  pub record InstanceFrom (j : ℕ) : Type 0 where
    pub skeletons : Skeletons
    pub arguments : Skeletons
    pub children : From j skeletons
    pub fits : rank ≤ length ys
    pub lower : cell < b.next_cell
    pub row : Row b.cells b.next_cell xs arguments
    pub bounded : AllBounded (size arguments) skeletons
    pub room : Room (weights skeletons) (weights skeletons) b

  -- they are instances, and those in front of them are as they were
  pub record InstancedFrom (j : ℕ) (b' : FormBuilder) (made : List ℕ) : Type 0 where
    pub grown : (us : Skeletons) → From j us → Grown (weights us) (weights us) b b'
    pub long : length made ≡ length ys
    pub front : (k : ℕ) → k < j → get_or made k 0 ≡ get_or ys k 0
    pub each : (k : ℕ) → j ≤ k → k < rank → get_or made k 0 < b'.next_cell
    pub stood : (rs : List Rule) (us ss : Skeletons) → Holds b.table.now rs → b.next_rule.0 ≡ length rs → From j us → Row b.cells b.next_cell xs ss
        → AllBounded (size ss) us → StoodRow (substitutes ss us rs) b' (drop j made)

  -- child j, and those behind it
  record Next (j : ℕ) (s : Skeleton) (us : Skeletons) : Type 0 where
    pub falls : get_or ys j 0 < cell
    pub stands : Stands b.cells (get_or ys j 0) s
    pub behind : From (suc j) us

  next : (j : ℕ) (s : Skeleton) (us : Skeletons) → j < length ys → From j (cons s us) → Next j s us
  next j s us h f =
      let p : Row b.cells cell (get_or ys j 0 ∷ drop (suc j) ys) (cons s us) = rw (drop-cons ys j 0 h) at f.row in
      record { falls = p.0; stands = p.1; behind = record { row = p.2; count = omega (arith, f.count) } }

  -- none yet
  pub none_instanced : InstancedFrom rank b ys
  unfolding substitutes
  none_instanced = record { grown = λ us f. grown-none; long = refl; front = λ k h. refl; each = λ k h l. absurd (omega arith); stood = stood }
    where
      stood : (rs : List Rule) (us ss : Skeletons) → Holds b.table.now rs → b.next_rule.0 ≡ length rs → From rank us → Row b.cells b.next_cell xs ss
          → AllBounded (size ss) us → StoodRow (substitutes ss us rs) b (drop rank ys)
      stood rs nil ss held e f row h = record { held = held; counted = e; row = tt }
      stood rs (cons s us) ss held e f row h = absurd (omega (arith, f.count))

module _ {b : FormBuilder} {xs : List ℕ} {cell rank : ℕ} {ys : List ℕ} where
  module _ {j : ℕ} (i : InstanceFrom b xs cell rank ys j) (more : j < rank) where
    abbrev child : ℕ
    child = get_or ys j 0

    -- what is known of child j, and of those behind it
    pub record Child : Type 0 where
      pub skeleton : Skeleton
      pub skeletons : Skeletons
      pub stands : Stands b.cells child skeleton
      pub falls : child < cell
      pub behind : From b xs cell rank ys (suc j) skeletons
      pub bounded : Bounded (size i.arguments) skeleton
      pub others : AllBounded (size i.arguments) skeletons
      pub room : Room (weights skeletons + weight skeleton) (weights skeletons + weight skeleton) b

    pub this : Child
    this = go i.skeletons i.children i.bounded i.room
      where
        go : (us : Skeletons) → From b xs cell rank ys j us → AllBounded (size i.arguments) us → Room (weights us) (weights us) b → Child
        go nil f h r = absurd (omega (arith, f.count))
        go (cons s us) f h r =
            let n = next b xs cell rank ys j s us (omega (arith, i.fits)) f in
            record {
              skeleton = s;
              skeletons = us;
              stands = n.stands;
              falls = n.falls;
              behind = n.behind;
              bounded = h.0;
              others = h.1;
              room = room_less (omega arith) (omega arith) r;
            }

    behind_instance : InstanceFrom b xs cell rank ys (suc j)
    behind_instance = record {
      skeletons = this.skeletons;
      arguments = i.arguments;
      children = this.behind;
      fits = i.fits;
      lower = i.lower;
      row = i.row;
      bounded = this.others;
      room = room_less (omega arith) (omega arith) this.room;
    }

    module _ {b₁ : FormBuilder} {made : List ℕ} {j₀ : ℕ} (e : j₀ ≡ suc j) (w' : InstancedFrom b xs cell rank ys j₀ b₁ made) where
      w : InstancedFrom b xs cell rank ys (suc j) b₁ made
      w = subst (λ (n : ℕ). InstancedFrom b xs cell rank ys n b₁ made) e w'

      grown₁ : Grown (weights this.skeletons) (weights this.skeletons) b b₁
      grown₁ = w.grown this.skeletons this.behind

      stands₁ : (s : Skeleton) → Stands b.cells child s → Stands b₁.cells child s
      stands₁ s p = grown-stands grown₁ child s (omega (arith, this.falls, i.lower)) p

      pub child-falls : get_or made j 0 < cell
      child-falls = omega (arith, w.front j (omega arith), this.falls)

      pub child_instance : Instance b₁ xs (get_or made j 0)
      child_instance = rw (w.front j (omega arith)) record {
        skeleton = this.skeleton;
        arguments = i.arguments;
        stands = stands₁ this.skeleton this.stands;
        lower = omega (arith, this.falls, i.lower, grown₁.more-cells);
        row = grown_rows grown₁ xs i.arguments i.row;
        bounded = this.bounded;
        room = room-left this.room grown₁;
      }

      module _ {b₂ : FormBuilder} {m : ℕ} (q' : Instanced b₁ xs (get_or made j 0) b₂ m) where
        q : Instanced b₁ xs child b₂ m
        q = rw (w.front j (omega arith)) at q'

        grown₂ : Grown (weight this.skeleton) (weight this.skeleton) b₁ b₂
        grown₂ = q.grown this.skeleton (stands₁ this.skeleton this.stands)

        there : j < length made
        there = omega (arith, w.long, i.fits)

        abbrev made₂ : List ℕ
        made₂ = set made j m

        made_split : drop j made₂ ≡ m ∷ drop (suc j) made
        made_split =
            let l : j < length made₂ = omega (arith, length-set made j m, there) in
            drop-cons made₂ j 0 l ∙ rw (get_or-set_same made j m 0 there, drop-set-lt (suc j) made j m (omega arith))

        each₂ : (k : ℕ) → j ≤ k → k < rank → Dec (j < k) → get_or made₂ k 0 < b₂.next_cell
        each₂ k h l (yes z) = rw (get_or-set_other made j k m 0 (λ e. omega arith)) (omega (arith, w.each k z l, grown₂.more-cells))
        each₂ k h l (no z) =
            let e : k ≡ j = omega arith in
            rw (e, get_or-set_same made j m 0 there) q.lower

        -- child j in front of those behind it
        pub child_instanced : InstancedFrom b xs cell rank ys j b₂ made₂
        unfolding substitutes
        child_instanced = record {
          grown = grown;
          long = length-set made j m ∙ w.long;
          front = λ k h. get_or-set_other made j k m 0 (λ e. omega arith) ∙ w.front k (omega arith);
          each = λ k h l. each₂ k h l (dec_lt j k);
          stood = stood;
        }
          where
            grown : (us : Skeletons) → From b xs cell rank ys j us → Grown (weights us) (weights us) b b₂
            grown nil f = absurd (omega (arith, f.count))
            grown (cons s us) f =
                let n = next b xs cell rank ys j s us (omega (arith, i.fits)) f in
                grown_less (omega arith) (omega arith) (grown-then (w.grown us n.behind) (q.grown s (stands₁ s n.stands)))

            stood : (rs : List Rule) (us ss : Skeletons) → Holds b.table.now rs → b.next_rule.0 ≡ length rs → From b xs cell rank ys j us → Row b.cells b.next_cell xs ss
                → AllBounded (size ss) us → StoodRow (substitutes ss us rs) b₂ (drop j made₂)
            stood rs nil ss held e f row h = absurd (omega (arith, f.count))
            stood rs (cons s us) ss held e f row h =
                let n = next b xs cell rank ys j s us (omega (arith, i.fits)) f in
                let p = w.stood rs us ss held e n.behind row h.1 in
                let t = q.stood (substitutes ss us rs).rules s ss p.held p.counted (stands₁ s n.stands) (grown_rows grown₁ xs ss row) h.0 in
                record {
                  held = t.held;
                  counted = t.counted;
                  row = rw made_split (t.lower, t.stands, grown_rows grown₂ (drop (suc j) made) (substitutes ss us rs).made p.row);
                }

  pub instance_at : InstanceFrom b xs cell rank ys 0 → (j : ℕ) → j ≤ rank → InstanceFrom b xs cell rank ys j
  instance_at i zero h = i
  instance_at i (suc j) h = behind_instance (instance_at i j (omega arith)) (omega arith)

-- a terminal over cells

substitutes-size : (args us : Skeletons) (rs : List Rule) → size (substitutes args us rs).made ≡ size us
unfolding substitutes
substitutes-size args nil rs = refl
substitutes-size args (cons s us) rs = ap suc (substitutes-size args us rs)

row_taken : (b : FormBuilder) (limit k : ℕ) (xs : List ℕ) (ss : Skeletons) → size ss ≡ k → Row b.cells limit xs ss → Row b.cells limit (take k xs) ss
row_taken b limit k xs nil e p = tt
row_taken b limit k [] (cons s ss) e p = absurd p
row_taken b limit zero (x ∷ xs) (cons s ss) e p = absurd (omega arith)
row_taken b limit (suc k) (x ∷ xs) (cons s ss) e p = (p.0, p.1, row_taken b limit k xs ss (omega arith) p.2)

module _ {b : FormBuilder} {xs : List ℕ} {cell : ℕ} (i : Instance b xs cell) {f : Symbol} {rank : ℕ} {ys : List ℕ} (is : cell_at b.cells cell ≡ Terminal f rank ys) where
  pub record Branches : Type 0 where
    pub children : InstanceFrom b xs cell rank ys 0
    pub four : length ys ≡ 4
    pub room : Room (weights children.skeletons + 2) (weights children.skeletons + 1) b

  pub branches : Branches
  branches = go i.skeleton i.stands i.bounded i.room
    where
      go : (s : Skeleton) → Stands b.cells cell s → Bounded (size i.arguments) s → Room (weight s) (weight s) b → Branches
      go (param j) p h r = cc
      go (shut a) p h r = cc
      go (under c s) (child, at, lower, p) h r = cc
      go (branch g ss) (zs, at, four, p) h r =
          let z : zs ≡ ys = cc in
          let n : size ss ≡ rank = cc in
          let row : Row b.cells cell ys ss = rw z at p in
          record {
            children = record {
              skeletons = ss;
              arguments = i.arguments;
              children = record { row = row; count = omega arith };
              fits = omega (arith, row-long b.cells cell ys ss row);
              lower = i.lower;
              row = i.row;
              bounded = h;
              room = room_less (omega arith) (omega arith) r;
            };
            four = ap length (sym z) ∙ four;
            room = room_less (omega arith) (omega arith) r;
          }

  pub rank-few : rank ≤ 4
  rank-few = omega (arith, branches.children.fits, branches.four)

  module _ {b₁ : FormBuilder} {made : List ℕ} {j₀ : ℕ} (z : j₀ ≡ 0) (w' : InstancedFrom b xs cell rank ys j₀ b₁ made) where
    all : InstancedFrom b xs cell rank ys 0 b₁ made
    all = subst (λ (n : ℕ). InstancedFrom b xs cell rank ys n b₁ made) z w'

    pub branch-room : Room 2 1 b₁
    branch-room = room-left branches.room (all.grown branches.children.skeletons branches.children.children)

    abbrev these : List ℕ
    these = take rank made

    pub these_long : length these ≡ rank
    these_long = length-take-le rank made (omega (arith, all.long, branches.children.fits))

    pub branch_instanced : {b₂ : FormBuilder} {m : ℕ} → TerminalContracted b₁ f.0 these b₂ m → Instanced b xs cell b₂ m
    unfolding substitute
    branch_instanced {b₂} {m} q = record { grown = grown; lower = q.lower; stood = stood }
      where
        from : (g : ℕ) (us : Skeletons) (zs : List ℕ) → cell_at b.cells cell ≡ Terminal (record { 0 = g }) (size us) zs → Row b.cells cell zs us → From b xs cell rank ys 0 us
        from g us zs at p =
            let z : zs ≡ ys = cc in
            let n : size us ≡ rank = cc in
            record { row = rw z at p; count = omega arith }

        grown : (s : Skeleton) → Stands b.cells cell s → Grown (weight s) (weight s) b b₂
        grown (param j) p = cc
        grown (shut a) p = cc
        grown (under c s) (child, at, lower, p) = cc
        grown (branch g us) (zs, at, four, p) = grown_less (omega arith) (omega arith) (grown-then (all.grown us (from g us zs at p)) q.grown)

        stood : (rs : List Rule) (s : Skeleton) (ss : Skeletons) → Holds b.table.now rs → b.next_rule.0 ≡ length rs → Stands b.cells cell s → Row b.cells b.next_cell xs ss
            → Bounded (size ss) s → Stood (substitute ss s rs) b₂ m
        stood rs (param j) ss held e p row h = cc
        stood rs (shut a) ss held e p row h = cc
        stood rs (under c s) ss held e (child, at, lower, p) row h = cc
        stood rs (branch g us) ss held e (zs, at, four, p) row h =
            let t = all.stood rs us ss held e (from g us zs at p) row h in
            let letter : f ≡ record { 0 = g } = cc in
            let x : f.0 ≡ g = ap (λ (y : Symbol). y.0) letter in
            let n : size us ≡ rank = cc in
            let count : size (substitutes ss us rs).made ≡ rank = substitutes-size ss us rs ∙ n in
            rw x at
            (q.stood (substitutes ss us rs).rules (substitutes ss us rs).made t.held t.counted
            (row_taken b₁ b₁.next_cell rank made (substitutes ss us rs).made count t.row) (count ∙ sym these_long))
