-- An instance of what a cell represents is a step of the model, by what the cell is: a parameter, a rule of rank 0, or a rule of rank 1 over a cell.
use mathlib.Core.Path.{◌≡◌, ap}
use mathlib.Core.List.{List}
use Prim.Native.Nat.{ℕ, ◌+◌, ◌<◌}
use native.Mathlib.Omega.{arith}
use lib.ListN.{length, get_or}
use Rattle.terms.specs.Form.{Rule}
use Rattle.terms.specs.declared.Rule.{Rule as Number}
use Rattle.skeletons.specs.Skeleton.{Skeleton, Skeletons, param, shut, under, branch, size, weight}
use Rattle.skeletons.specs.Make.{substitute}
use Rattle.form_writing.specs.Bytes.{Holds}
use Rattle.cells.specs.Cells.{cell_at, Stands, Row}
use Rattle.cells.specs.Builder.{Room, Grown, Stood}
use Rattle.cells.specs.declared.builder.FormBuilder.{FormBuilder}
use Rattle.cells.specs.declared.cells.Cell.TheVariants.{Parameter, Closed, Over}
use Rattle.contraction.specs.Chain.{ChainContracted}
use Rattle.contraction.specs.Substitution.{Bounded, Instance, Instanced}
use Rattle.cells.proofs.Standing.{row_at, row-long}
use Rattle.cells.proofs.Adding.{grown-none, grown-then, grown_less, room-left, room_less}

module _ {b : FormBuilder} {xs : List ℕ} {cell : ℕ} (i : Instance b xs cell) where
  -- a parameter: what the argument's cell represents
  module _ {n : ℕ} (is : cell_at b.cells cell ≡ Parameter n) where
    parameter-there : n < size i.arguments
    parameter-there = go i.skeleton i.stands i.bounded
      where
        go : (s : Skeleton) → Stands b.cells cell s → Bounded (size i.arguments) s → n < size i.arguments
        go (param j) p h = let z : n ≡ j = cc in omega arith
        go (shut a) p h = cc
        go (under c s) (child, at, lower, p) h = cc
        go (branch f ss) (ys, at, four, p) h = cc

    pub argument_there : n < length xs
    argument_there = omega (arith, parameter-there, row-long b.cells b.next_cell xs i.arguments i.row)

    pub parameter_instanced : Instanced b xs cell b (get_or xs n 0)
    unfolding substitute
    parameter_instanced = record { grown = λ s p. grown-none; lower = (row_at b.cells b.next_cell xs i.arguments i.row n parameter-there).0; stood = stood }
      where
        stood : (rs : List Rule) (s : Skeleton) (ss : Skeletons) → Holds b.table.now rs → b.next_rule.0 ≡ length rs → Stands b.cells cell s → Row b.cells b.next_cell xs ss
            → Bounded (size ss) s → Stood (substitute ss s rs) b (get_or xs n 0)
        stood rs (param j) ss held e p row h =
            let z : n ≡ j = cc in
            let a = row_at b.cells b.next_cell xs ss row j h in
            record { held = held; counted = e; lower = rw z a.0; stands = rw z a.1 }
        stood rs (shut a) ss held e p row h = cc
        stood rs (under c s) ss held e (child, at, lower, p) row h = cc
        stood rs (branch f us) ss held e (ys, at, four, p) row h = cc

  -- a rule of rank 0 stays
  pub rule_instanced : {a : Number} → cell_at b.cells cell ≡ Closed a → Instanced b xs cell b cell
  unfolding substitute
  rule_instanced {a} is = record { grown = λ s p. grown-none; lower = i.lower; stood = stood }
    where
      stood : (rs : List Rule) (s : Skeleton) (ss : Skeletons) → Holds b.table.now rs → b.next_rule.0 ≡ length rs → Stands b.cells cell s → Row b.cells b.next_cell xs ss
          → Bounded (size ss) s → Stood (substitute ss s rs) b cell
      stood rs (param j) ss held e p row h = cc
      stood rs (shut x) ss held e p row h = record { held = held; counted = e; lower = i.lower; stands = p }
      stood rs (under c s) ss held e (child, at, lower, p) row h = cc
      stood rs (branch f us) ss held e (ys, at, four, p) row h = cc

  -- a rule of rank 1 over a cell
  module _ {a : Number} {child : ℕ} (is : cell_at b.cells cell ≡ Over a child) where
    pub record Inner : Type 0 where
      pub instance : Instance b xs child
      pub falls : child < cell
      pub room : Room (weight instance.skeleton + 1) (weight instance.skeleton + 1) b

    pub inner : Inner
    inner = go i.skeleton i.stands i.bounded i.room
      where
        go : (s : Skeleton) → Stands b.cells cell s → Bounded (size i.arguments) s → Room (weight s) (weight s) b → Inner
        go (param j) p h r = cc
        go (shut x) p h r = cc
        go (under c s) (child', at, lower, p) h r =
            let z : child' ≡ child = cc in
            record {
              instance = record {
                skeleton = s;
                arguments = i.arguments;
                stands = rw (← z) p;
                lower = omega (arith, i.lower);
                row = i.row;
                bounded = h;
                room = room_less (omega arith) (omega arith) r;
              };
              falls = omega arith;
              room = room_less (omega arith) (omega arith) r;
            }
        go (branch f ss) (ys, at, four, p) h r = cc

    module _ {b₁ : FormBuilder} {m : ℕ} (w : Instanced b xs child b₁ m) where
      pub inner-room : Room 1 1 b₁
      inner-room = room-left inner.room (w.grown inner.instance.skeleton inner.instance.stands)

      pub under_instanced : {b₂ : FormBuilder} {made : ℕ} → ChainContracted b₁ a.0 m b₂ made → Instanced b xs cell b₂ made
      unfolding substitute
      under_instanced {b₂} {made} q = record { grown = grown; lower = q.lower; stood = stood }
        where
          grown : (s : Skeleton) → Stands b.cells cell s → Grown (weight s) (weight s) b b₂
          grown (param j) p = cc
          grown (shut x) p = cc
          grown (under c s) (child', at, lower, p) =
              let z : child' ≡ child = cc in
              grown_less (omega arith) (omega arith) (grown-then (w.grown s (rw (← z) p)) q.grown)
          grown (branch f us) (ys, at, four, p) = cc

          stood : (rs : List Rule) (s : Skeleton) (ss : Skeletons) → Holds b.table.now rs → b.next_rule.0 ≡ length rs → Stands b.cells cell s → Row b.cells b.next_cell xs ss
              → Bounded (size ss) s → Stood (substitute ss s rs) b₂ made
          stood rs (param j) ss held e p row h = cc
          stood rs (shut x) ss held e p row h = cc
          stood rs (under c s) ss held e (child', at, lower, p) row h =
              let z : child' ≡ child = cc in
              let n : a ≡ record { 0 = c } = cc in
              let x : a.0 ≡ c = ap (λ (r : Number). r.0) n in
              let t = w.stood rs s ss held e (rw (← z) p) row h in
              rw x at (q.stood (substitute ss s rs).rules (substitute ss s rs).made t.held t.counted t.stands)
          stood rs (branch f us) ss held e (ys, at, four, p) row h = cc
