-- The rules of a practice sheet by their numbers: rule 0, those that are drawn, and the last.
use mathlib.Core.Path.{◌≡◌, refl, ◌∙◌, ap}
use mathlib.Core.Logic.{◌⊎◌, inl, inr}
use mathlib.Core.List.{List, [], ◌∷◌, ◌++◌, map}
use Prim.Native.Nat.{ℕ, zero, suc, ◌+◌, ◌*◌, ◌≤◌, ◌<◌}
use native.Mathlib.Omega.{arith}
use native.Mathlib.Nat.{eq-or-lt_of_le}
use lib.ListN.{length, get_or, length-append, length-map, get_or-append}
use lib.Seq.{get_or_at}
use Rattle.terms.specs.Grammar.{Rule, rule_at, rule_rank, node_count}
use Rattle.terms.specs.Sheet.{written_rules}
use Rattle.practice_terms.specs.Draw.{Choice, calls, beside}
use Rattle.practice_terms.specs.Practice.{drawn_rule, first_rule, last_rule, grammar_of}
use Rattle.practice_terms.proofs.Choices.{Below, AllBelow, choices_length}

-- the choice for rule i, by its place
abbrev pub choice_at : List Choice → ℕ → Choice
choice_at cs i = get_or cs i (beside 0)

map_at : (cs : List Choice) (d : Rule) (i : ℕ) → i < length cs → get_or (map drawn_rule cs) i d ≡ drawn_rule (choice_at cs i)
map_at [] d i h = absurd (omega arith)
map_at (c ∷ cs) d zero h = refl
map_at (c ∷ cs) d (suc i) h = map_at cs d i (omega arith)

pub below_at : (cs : List Choice) (i n k : ℕ) → AllBelow i cs → n < length cs → i + n ≡ k → Below k (choice_at cs n)
below_at [] i n k b h e = absurd (omega arith)
below_at (c ∷ cs) i zero k b h e = let same : i ≡ k = omega arith in rw same at b.0
below_at (c ∷ cs) i (suc n) k b h e = below_at cs (suc i) n k b.1 (omega arith) (omega arith)

module _ (cs : List Choice) where
  abbrev rules : List Rule
  rules = grammar_of cs

  pub length-rules : length rules ≡ suc (suc (length cs))
  unfolding grammar_of
  length-rules = omega (arith, length-append (map drawn_rule cs) (last_rule (length cs) ∷ []), length-map cs drawn_rule)

  pub at_first : rule_at rules 0 ≡ first_rule
  unfolding grammar_of
  at_first = refl

  pub at_drawn : (i : ℕ) → i < length cs → rule_at rules (suc i) ≡ drawn_rule (choice_at cs i)
  unfolding grammar_of
  at_drawn i h =
      let d : Rule = record { rank = 0; nodes = [] } in
      get_or-append (map drawn_rule cs) (last_rule (length cs) ∷ []) d i (omega (arith, length-map cs drawn_rule)) ∙ map_at cs d i h

  pub at_last : rule_at rules (suc (length cs)) ≡ last_rule (length cs)
  unfolding grammar_of
  at_last = get_or_at (map drawn_rule cs) (last_rule (length cs)) [] (record { rank = 0; nodes = [] }) (length cs) (length-map cs drawn_rule)

  -- what rule i is
  pub data Shape (i : ℕ) : Type 0 where
    is-first : i ≡ 0 → rule_at rules i ≡ first_rule → Shape i
    is-drawn : (n : ℕ) → n < length cs → i ≡ suc n → Below i (choice_at cs n) → rule_at rules i ≡ drawn_rule (choice_at cs n) → Shape i
    is_last : i ≡ suc (length cs) → rule_at rules i ≡ last_rule (length cs) → Shape i

  pub shape : AllBelow 1 cs → (i : ℕ) → i < length rules → Shape i
  shape b zero h = is-first refl at_first
  shape b (suc i) h =
      let l : i ≤ length cs = omega (arith, length-rules) in
      go (eq-or-lt_of_le l)
    where
      go : (i ≡ length cs) ⊎ (i < length cs) → Shape (suc i)
      go (inl e) = is_last (ap suc e) (rw e at_last)
      go (inr k) = is-drawn i k refl (below_at cs 1 i (suc i) b k (omega arith)) (at_drawn i k)

  -- every rule but the last has rank 1
  pub rank_one : (i : ℕ) → i ≤ length cs → rule_rank rules i ≡ 1
  rank_one zero h = ap (λ (r : Rule). r.rank) at_first
  rank_one (suc i) h = ap (λ (r : Rule). r.rank) (at_drawn i (omega arith))

-- how many bytes and nodes they have

count-append : (cs : List Choice) (r : Rule) → node_count (map drawn_rule cs ++ (r ∷ [])) + 2 * length cs ≡ choices_length cs + length r.nodes
count-append [] r = omega arith
count-append (calls j k ∷ cs) r = omega (arith, count-append cs r)
count-append (beside j ∷ cs) r = omega (arith, count-append cs r)

pub count-nodes : (cs : List Choice) → node_count (grammar_of cs) + 2 * length cs ≡ 4 + choices_length cs
unfolding grammar_of
count-nodes cs = omega (arith, count-append cs (last_rule (length cs)))

bytes-append : (cs : List Choice) (r : Rule) → length (written_rules (map drawn_rule cs ++ (r ∷ []))) ≡ choices_length cs + (2 + length r.nodes)
unfolding written_rules
bytes-append [] r = omega (arith, length-append r.nodes [])
bytes-append (calls j k ∷ cs) r = omega (arith, bytes-append cs r)
bytes-append (beside j ∷ cs) r = omega (arith, bytes-append cs r)

pub length-bytes : (cs : List Choice) → length (written_rules (grammar_of cs)) ≡ 4 + choices_length cs + 4
unfolding grammar_of written_rules
length-bytes cs = omega (arith, bytes-append cs (last_rule (length cs)))
