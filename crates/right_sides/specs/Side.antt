-- A right side of a rule, node by node from the last to the first.
use Rattle.std.specs.Prelude.{◌≡◌, List, ℕ, ◌*◌, ◌-◌, ◌≤◌, ◌<◌, length, get_or}
use Rattle.terms.specs.Grammar.{Name, terminal, nonterminal, parameter, nothing, rule_at, terminal_rank, rule_rank, rank_in, Proper}
use Rattle.terms.specs.Grammar.{Rule as Production}
use Rattle.terms.specs.Form.{Rule, side_bound}
use Rattle.terms.specs.Check.{most_rules, most_nodes}
use Rattle.skeletons.specs.Skeleton.{Skeleton, param, nth, weight}
use Rattle.skeletons.specs.Make as model
use Rattle.skeletons.specs.Scan.{scan}
use Rattle.form_writing.specs.Bytes.{Holds}
use Rattle.cells.specs.Cells.{Stands}
use Rattle.cells.specs.Builder.{Room, Grown, Stood}
use Rattle.cells.specs.declared.builder.FormBuilder.{FormBuilder}
use Rattle.contraction.specs.Terminal.{Children, TerminalContracted}
use Rattle.contraction.specs.Substitution.{Bounded, Instance, Instanced}

-- a node over cells can be made, where roots has the cells of the lower rules
abbrev pub NodeReady : FormBuilder → List ℕ → List ℕ → Name → Type 0
NodeReady b roots xs (terminal f) = Room 2 1 b × Children b.next_cell xs
NodeReady b roots xs (nonterminal r) = (r < most_rules) × Instance b xs (get_or roots r 0)
NodeReady b roots xs (parameter j) = j < 4
NodeReady b roots xs nothing = ⊥

-- nothing is added, and the cell is j
pub record Same (j : ℕ) (b b' : FormBuilder) (made : ℕ) : Type 0 where
  pub kept : b' ≡ b
  pub cell : made ≡ j

-- what making it does
abbrev pub NodeMade : FormBuilder → List ℕ → List ℕ → Name → FormBuilder → ℕ → Type 0
NodeMade b roots xs (terminal f) b' made = TerminalContracted b f xs b' made
NodeMade b roots xs (nonterminal r) b' made = Instanced b xs (get_or roots r 0) b' made
NodeMade b roots xs (parameter j) b' made = Same j b b' made
NodeMade b roots xs nothing b' made = Unit {0}

-- what is known of the rules below a number: their ranks, and the cells that represent their skeletons; and that the first cells are the parameters
pub record Known (b : FormBuilder) (ranks roots : List ℕ) (rules : List Production) (number : ℕ) (skeleton : ℕ → Skeleton) : Type 0 where
  pub rank : (r : ℕ) → r < number → get_or ranks r 0 ≡ rule_rank rules r
  pub lower : (r : ℕ) → r < number → get_or roots r 0 < b.next_cell
  pub stands : (r : ℕ) → r < number → Stands b.cells (get_or roots r 0) (skeleton r)
  pub bounded : (r : ℕ) → r < number → Bounded (rule_rank rules r) (skeleton r)
  pub light : (r : ℕ) → r < number → weight (skeleton r) ≤ 4 * rule_rank rules r - 3
  pub four : 4 ≤ b.next_cell
  pub parameters : (j : ℕ) → j < 4 → Stands b.cells j (param j)

-- the nodes are those of a rule of a grammar, of which the lower rules are known, and there is room for what they make
pub record RightSide (b : FormBuilder) (alphabet ranks roots nodes : List ℕ) : Type 0 where
  pub rules : List Production
  pub number : ℕ
  pub made : List Rule
  pub skeleton : ℕ → Skeleton
  pub proper : Proper alphabet rules
  pub low : (f : ℕ) → terminal_rank alphabet f ≤ 4
  pub inside : number < length rules
  pub rule_nodes : nodes ≡ (rule_at rules number).nodes
  pub few : length nodes ≤ most_nodes
  pub known : Known b ranks roots rules number skeleton
  pub held : Holds b.table.now made
  pub counted : b.next_rule.0 ≡ length made
  pub room : Room (side_bound rules nodes) (4 * length nodes) b

-- the right side is scanned as in the model
abbrev pub side_made : {b : FormBuilder} {alphabet ranks roots nodes : List ℕ} → RightSide b alphabet ranks roots nodes → model.Made
side_made {alphabet = alphabet} {nodes = nodes} g =
    let m = scan (rank_in alphabet g.rules) g.skeleton nodes g.made in
    record { rules = m.rules; made = nth m.made 0 }

pub record SideMade (b : FormBuilder) (alphabet ranks roots nodes : List ℕ) (b' : FormBuilder) (made : ℕ) : Type 0 where
  pub grown : (g : RightSide b alphabet ranks roots nodes) → Grown (side_bound g.rules nodes) (4 * length nodes) b b'
  pub stood : (g : RightSide b alphabet ranks roots nodes) → Stood (side_made g) b' made
