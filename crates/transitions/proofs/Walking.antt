-- A walk along the links of a terminal: from one of its transitions to the next lie only transitions of others.
use mathlib.Core.Path.{◌≡◌, ap, ◌∙◌}
use mathlib.Core.Bool.{Bool}
use mathlib.Core.List.{List}
use Prim.Native.Nat.{ℕ, ◌+◌, ◌≤◌, ◌<◌}
use lib.Bits.{bit_or}
use lib.ListN.{length}
use Rattle.terms.specs.Test.{some}
use Rattle.terms.specs.Relation.{matrix}
use Rattle.terms.specs.Sheet.{transition_count, transition_byte}
use Rattle.transition_links.specs.Links.{First}
use Rattle.transitions.specs.Step.{transition_with, leads, pair_of}
use Rattle.relations.proofs.Matrix.{union_none, union_more}
use Rattle.transitions.proofs.Leads.{pairs_gap}

module _ (a ms : List ℕ) (f hole : ℕ) where
  abbrev at : ℕ → ℕ → ℕ → Bool
  at p q k = leads f ms hole p q (transition_with a (length ms) k)

  -- what the walk knows at i
  pub record Walked (pairs i : ℕ) : Type 0 where
    pub within : i ≤ transition_count a
    pub here : i < transition_count a → transition_byte a i 0 ≡ f
    pub found : pairs ≡ matrix (λ p q. some i (at p q))

  pub starts : (j : ℕ) → First a f 0 j → Walked 0 j
  starts j h = record { within = h.within; here = h.here; found = union_none at ∙ pairs_gap a ms f hole 0 j h }

  pub goes_on : (pairs pair i j : ℕ) → Walked pairs i → transition_byte a i 0 ≡ f → pair ≡ pair_of a i ms hole → First a f (i + 1) j → Walked (bit_or pair pairs) j
  goes_on pairs pair i j w e is first =
      let of-f = is ∙ ap (λ (g : ℕ). matrix (λ p q. leads g ms hole p q (transition_with a (length ms) i))) e in
      record {
        within = first.within;
        here = first.here;
        found = union_more at pair pairs i of-f w.found ∙ pairs_gap a ms f hole (i + 1) j first;
      }
