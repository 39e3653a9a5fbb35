-- The rules of a body, read one after another with their numbers: what is left behind the first of them.
use mathlib.Core.Path.{◌≡◌, refl, sym, ◌∙◌, ap}
use mathlib.Core.List.{List, [], ◌∷◌}
use Prim.Native.Nat.{ℕ, ◌+◌, ◌<◌, ◌≤◌}
use native.Mathlib.Omega.{arith}
use native.Mathlib.Numerals.{add-one}
use lib.ListN.{length, drop}
use lib.Seq.{drop-cons}
use Rattle.terms.specs.Grammar.{Rule, rule_at, node_count}
use Rattle.terms.specs.Sheet.{rules_body}

-- what is left of a body where its first i rules are read
pub record Left (body : List ℕ) (i : ℕ) (left : List ℕ) : Type 0 where
  pub rest : drop i (rules_body body).rules ≡ (rules_body left).rules
  pub count : length (rules_body body).rules ≡ i + length (rules_body left).rules
  pub nodes : node_count (rules_body left).rules ≤ node_count (rules_body body).rules

pub none-read : (body : List ℕ) → Left body 0 body
none-read body = record { rest = refl; count = omega arith; nodes = omega arith }

-- rule i, the first of what is left, is read
pub record Turn (body : List ℕ) (i : ℕ) (left : List ℕ) (rule : Rule) (later : List ℕ) : Type 0 where
  pub inside : i < length (rules_body body).rules
  pub here : rule_at (rules_body body).rules i ≡ rule
  pub first : (rules_body left).rules ≡ rule ∷ (rules_body later).rules
  pub parted : node_count (rules_body left).rules ≡ length rule.nodes + node_count (rules_body later).rules
  pub next : Left body (i + 1) later

pub turn : {body left later : List ℕ} {i : ℕ} {rule : Rule} → Left body i left → (rules_body left).rules ≡ rule ∷ (rules_body later).rules → Turn body i left rule later
turn {body} {left} {later} {i} {rule} l e =
    let all = (rules_body body).rules in
    let few = ap length e in
    let nodes = ap node_count e in
    let inside : i < length all = omega (arith, l.count, few) in
    let parts = sym (drop-cons all i (record { rank = 0; nodes = [] }) inside) ∙ l.rest ∙ e in
    record {
      inside = inside;
      here = cc;
      first = e;
      parted = nodes;
      next = record { rest = rw add-one (cc); count = omega (arith, l.count, few); nodes = omega (arith, l.nodes, nodes) };
    }

-- none is left
pub read-all : {body left : List ℕ} {i : ℕ} → Left body i left → (rules_body left).rules ≡ [] → length (rules_body body).rules ≡ i
read-all l e = omega (arith, l.count, ap length e)
