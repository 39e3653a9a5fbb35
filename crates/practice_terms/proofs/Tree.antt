-- The rules of a practice sheet derive the tree that the choices describe: rule i called on t derives context i around t.
use mathlib.Core.Path.{◌≡◌, refl, sym, ◌∙◌, ap}
use mathlib.Core.List.{List, [], ◌∷◌, ◌++◌}
use Prim.Native.Nat.{ℕ, zero, suc, ◌+◌, ◌-◌, ◌≤◌, ◌<◌}
use native.Mathlib.Omega.{arith}
use lib.ListN.{length, length-append, get_or-append}
use lib.Seq.{get_or_at}
use Rattle.terms.specs.Tree.{Tree, Forest, node, none, more, join, firsts, rest, pick, forest_of, tree_of}
use Rattle.terms.specs.Context.{Context, hole, plug}
use Rattle.terms.specs.Grammar.{Rule, rule_at, rank_in, right_side, value, values, apply, derived}
use Rattle.terms.proofs.Tree.Context.{plug-compose}
use Rattle.terms.proofs.Grammar.Name.{name-terminal, name-call, name-parameter}
use Rattle.practice_terms.specs.Draw.{Choice, calls, beside}
use Rattle.practice_terms.specs.Practice.{practice_alphabet, choice_nodes, drawn_rule, first_rule, last_rule, grammar_of}
use Rattle.practice_terms.specs.Described.{tree_a, context_h, context_at, describes, contexts_from, contexts_of}
use Rattle.practice_terms.proofs.Choices.{Below, AllBelow}
use Rattle.practice_terms.proofs.Rules.{choice_at, below_at, length-rules, at_first, at_drawn, at_last}
use Rattle.practice_terms.proofs.Passes.{rank-call, rank-parameter, rank_a, rank_h, rank_f}

-- What the contexts are.

-- those that are done stay
contexts_kept : (done : List Context) (cs : List Choice) (i : ℕ) → i < length done → context_at (contexts_from done cs) i ≡ context_at done i
unfolding contexts_from
contexts_kept done [] i h = refl
contexts_kept done (c ∷ cs) i h =
    let e = describes (context_at done) c in
    contexts_kept (done ++ (e ∷ [])) cs i (omega (arith, length-append done (e ∷ []))) ∙ get_or-append done (e ∷ []) hole i h

describes-same : (u v : ℕ → Context) (i : ℕ) → ((j : ℕ) → j < i → u j ≡ v j) → (c : Choice) → Below i c → describes u c ≡ describes v c
describes-same u v i e (calls j k) b = rw (e j b.0, e k b.1)
describes-same u v i e (beside j) b = rw (e j b)

-- each next one is what its choice describes
contexts_step : (cs : List Choice) (done : List Context) (n k : ℕ) → AllBelow (length done) cs → n < length cs → length done + n ≡ k
    → context_at (contexts_from done cs) k ≡ describes (context_at (contexts_from done cs)) (choice_at cs n)
unfolding contexts_from
contexts_step [] done n k b h e = absurd (omega arith)
contexts_step (c ∷ cs) done zero k b h e =
    let d = describes (context_at done) c in
    let more-done = done ++ (d ∷ []) in
    let l = length-append done (d ∷ []) in
    let low : k < length more-done = omega arith in
    contexts_kept more-done cs k low ∙ get_or_at done d [] hole k (omega arith)
    ∙ describes-same (context_at done) (context_at (contexts_from more-done cs)) (length done) (λ j m. sym (contexts_kept more-done cs j (omega arith) ∙ get_or-append done (d ∷ []) hole j m)) c b.0
contexts_step (c ∷ cs) done (suc n) k b h e =
    let d = describes (context_at done) c in
    let l : length (done ++ (d ∷ [])) ≡ suc (length done) = omega (arith, length-append done (d ∷ [])) in
    contexts_step cs (done ++ (d ∷ [])) n k (rw l b.1) (omega arith) (omega arith)

module _ (cs : List Choice) (below : AllBelow 1 cs) where
  abbrev at : ℕ → Context
  at = context_at (contexts_of cs)

  context-first : at 0 ≡ context_h
  context-first = contexts_kept (context_h ∷ []) cs 0 (omega arith)

  context-drawn : (n : ℕ) → n < length cs → at (suc n) ≡ describes at (choice_at cs n)
  context-drawn n h = contexts_step cs (context_h ∷ []) n (suc n) below h (omega arith)

  -- What the rules derive.
  module _ (few : length cs ≤ 20) where
    abbrev rules : List Rule
    rules = grammar_of cs

    abbrev right : ℕ → Tree
    right = right_side practice_alphabet rules

    -- y1, and a call on a tree
    abbrev y : Tree
    y = node 0x80 none

    abbrev called : ℕ → Tree → Tree
    called j t = node (0x40 + j) (more t none)

    -- the right side of a choice
    abbrev side : Choice → Tree
    side (calls j k) = called j (called k y)
    side (beside j) = node 2 (more (called j y) (more tree_a none))

    right_of : (i : ℕ) (r : Rule) → rule_at rules i ≡ r → right i ≡ tree_of (rank_in practice_alphabet rules) r.nodes
    unfolding right_side
    right_of i r e = ap (λ (s : Rule). tree_of (rank_in practice_alphabet rules) s.nodes) e

    right_first : right 0 ≡ node 1 (more y none)
    unfolding tree_of forest_of pick firsts rest
    right_first = right_of 0 first_rule (at_first cs) ∙ rw (rank_h cs few, rank-parameter cs few)

    side_of_lem : (i : ℕ) → i ≤ length cs → (c : Choice) → Below i c → tree_of (rank_in practice_alphabet rules) (choice_nodes c) ≡ side c
    unfolding tree_of forest_of pick firsts rest
    side_of_lem i l (calls j k) b = rw (rank-call cs few j (omega arith), rank-call cs few k (omega arith), rank-parameter cs few)
    side_of_lem i l (beside j) b = rw (rank_f cs few, rank-call cs few j (omega arith), rank-parameter cs few, rank_a cs few)

    right_drawn : (n : ℕ) → n < length cs → right (suc n) ≡ side (choice_at cs n)
    right_drawn n h =
        right_of (suc n) (drawn_rule (choice_at cs n)) (at_drawn cs n h)
        ∙ side_of_lem (suc n) (omega arith) (choice_at cs n) (below_at cs 1 n (suc n) below h (omega arith))

    right_last : right (suc (length cs)) ≡ called (length cs) tree_a
    unfolding tree_of forest_of pick firsts rest
    right_last = right_of (suc (length cs)) (last_rule (length cs)) (at_last cs) ∙ rw (rank-call cs few (length cs) (omega arith), rank_a cs few)

    -- the value of a right side, where calls are contexts around their argument
    module _ (call : ℕ → Forest → Tree) (i : ℕ) (low : i ≤ length cs) (known : (j : ℕ) → j < i → (t : Tree) → call j (more t none) ≡ plug (at j) t) (t : Tree) where
      abbrev args : Forest
      args = more t none

      value-first : value call args (node 1 (more y none)) ≡ plug context_h t
      unfolding value values pick plug join
      value-first = rw (name-terminal 1 (omega arith), name-parameter 0 (omega arith))

      value_side : (c : Choice) → Below i c → value call args (side c) ≡ plug (describes at c) t
      unfolding value values pick plug join
      value_side (calls j k) b =
          rw (name-call j (omega arith), name-call k (omega arith), name-parameter 0 (omega arith), known k b.1 t, known j b.0 (plug (at k) t)) (sym (plug-compose (at j) (at k) t))
      value_side (beside j) b =
          rw (name-terminal 2 (omega arith), name-call j (omega arith), name-parameter 0 (omega arith), name-terminal 0 (omega arith), known j b t)

    -- rule i called on t
    apply-context : (k i : ℕ) → i < k → i ≤ length cs → (t : Tree) → apply right k i (more t none) ≡ plug (at i) t
    unfolding apply
    apply-context zero i h l t = absurd (omega arith)
    apply-context (suc k) zero h l t =
        ap (value (apply right k) (more t none)) right_first
        ∙ value-first (apply right k) 0 l (λ j m u. absurd (omega arith)) t
        ∙ ap (λ d. plug d t) (sym context-first)
    apply-context (suc k) (suc n) h l t =
        ap (value (apply right k) (more t none)) (right_drawn n (omega arith))
        ∙ value_side (apply right k) (suc n) l (λ j m u. apply-context k j (omega arith) (omega arith) u) t (choice_at cs n) (below_at cs 1 n (suc n) below (omega arith) (omega arith))
        ∙ ap (λ d. plug d t) (sym (context-drawn n (omega arith)))

    value_last : (call : ℕ → Forest → Tree) → ((t : Tree) → call (length cs) (more t none) ≡ plug (at (length cs)) t)
        → value call none (called (length cs) tree_a) ≡ plug (at (length cs)) tree_a
    unfolding value values
    value_last call known = rw (name-call (length cs) (omega arith), name-terminal 0 (omega arith)) (known tree_a)

    -- the start derives context m around a
    pub derives : derived practice_alphabet rules ≡ plug (at (length cs)) tree_a
    unfolding derived apply
    derives =
        let n : length rules ≡ suc (suc (length cs)) = length-rules cs in
        let start : suc (suc (length cs)) - 1 ≡ suc (length cs) = omega arith in
        rw (n, start)
        (ap (value (apply right (suc (length cs))) none) right_last
        ∙ value_last (apply right (suc (length cs))) (apply-context (suc (length cs)) (length cs) (omega arith) (omega arith)))
