-- Positions of the own symbols of a table's rules.
use Rattle.std.specs.Prelude.{◌≡◌, cond, List, [], ◌∷◌, ℕ, ◌-◌, ◌<◌, leb, ltb, get_or}
use Rattle.terms.specs.Refusal.{◌when◌}
use Rattle.terms.specs.Form.{Value, value_at}
use Rattle.terms.specs.FormBytes.{table_count, table_rules}
use Rattle.terms.specs.Count.{own_nodes, capped}
use Rattle.counting.specs.Private.Symbols.{own_symbols}
use Rattle.places.specs.declared.place.Found.{Found}
use Rattle.places.specs.declared.place.Found.TheVariants.{At, In}

-- the slot that position p of a row of slots falls into, and the position in it
abbrev pub place_in : (ℕ → ℕ) → List ℕ → ℕ → ℕ × ℕ
place_in own [] p = (0, p)
place_in own (a ∷ as') p = cond (ltb p (own a)) (a, p) (place_in own as' (p - own a))

-- position p of the symbols is position q of rule a, which is below n
pub record LiesIn (v : ℕ → Value) (n : ℕ) (symbols : List ℕ) (p a q : ℕ) : Type 0 where
  pub below : a < n
  pub within : q < capped (own_nodes (v a))
  pub same : get_or symbols p 0 ≡ get_or (own_symbols (v a)) q 0

-- the symbol at position p of rule i (01 Size, label)
abbrev pub symbol_at : List ℕ → List ℕ → ℕ → ℕ → ℕ
symbol_at alphabet table i p = get_or (own_symbols (value_at (table_rules alphabet table) i)) p 0

-- the refusal of position p of rule i: 21 where the rule has no such position (01 Size, label)
abbrev pub position_refusal : List ℕ → List ℕ → ℕ → ℕ → ℕ
position_refusal alphabet table i p = 21 when (leb (capped (own_nodes (value_at (table_rules alphabet table) i))) p)

-- rule i of a table has a position p (01 Size, label)
pub record Position (alphabet table : List ℕ) (i p : ℕ) : Type 0 where
  pub rule : i < table_count table
  pub within : p < capped (own_nodes (value_at (table_rules alphabet table) i))

-- position p of rule i is position q of rule a, which is lower (01 Size, label)
abbrev pub Lies : List ℕ → List ℕ → ℕ → ℕ → ℕ → ℕ → Type 0
Lies alphabet table i p a q =
    let value = value_at (table_rules alphabet table) in
    LiesIn value i (own_symbols (value i)) p a q

-- what is found of position p of rule i is right (01 Size, label)
abbrev pub Leads : List ℕ → List ℕ → ℕ → ℕ → Found → Type 0
Leads alphabet table i p (At f) = f.0 ≡ symbol_at alphabet table i p
Leads alphabet table i p (In place) = Lies alphabet table i p place.rule.0 place.position
