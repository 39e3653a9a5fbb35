-- The entries after the call, whatever numbers the slice held: each is made from its own number and from the entries below as now held, and nothing else is so made.
use mathlib.Core.Path.{◌≡◌, refl, sym, ap, ap₂, ◌∙◌}
use mathlib.Core.Bool.{Bool, true, false, cond}
use mathlib.Core.List.{List, [], ◌∷◌, ◌++◌, append_assoc}
use Prim.Native.Nat.{ℕ, zero, suc, ◌+◌, ◌^◌, ◌%◌, ◌<◌}
use native.Mathlib.Numerals.{add-one}
use native.Mathlib.Omega.{arith}
use native.Mathlib.Decide.{dec_lt}
use lib.ListN.{length, get_or, drop, set, length-append, get_or-append}
use lib.Seq.{drop-cons, set_at, get_or-append-add}
use Rattle.terms.specs.Automaton.{Transition, has, step}
use Rattle.terms.specs.Form.{Rule, whole, pierced, filled, composed, rule_at, Valid}
use Rattle.terms.specs.Relation.{states_at, relation_of}
use Rattle.terms.proofs.Automaton.Relation.{matrix_cong}
use Rattle.adding_terms.specs.Dependence.{calls_of, depends_at}
use Rattle.adding_terms.specs.Adding.{redone}
use Rattle.adding_terms.proofs.Every.{Every, every_map, every_parts, fits_below}

-- The entry of a rule depends only on the entries of the rules that it calls, and on the steps for its own terminal.

states_same : (v w : ℕ → ℕ) (slots : List ℕ) → Every (λ j. v j ≡ w j) slots → states_at v slots ≡ states_at w slots
unfolding states_at
states_same v w [] p = refl
states_same v w (a ∷ slots) p = ap₂ (λ (x : ℕ) (xs : List ℕ). x % 256 ∷ xs) p.0 (states_same v w slots p.1)

-- the transitions of both lists give a node with the rule's terminal the same states
abbrev pub SameSteps : List Transition → List Transition → Rule → Type 0
SameSteps δ δ' (whole g slots) = (ms : List ℕ) → step δ g ms ≡ step δ' g ms
SameSteps δ δ' (pierced g ls rs) = (ms : List ℕ) → step δ g ms ≡ step δ' g ms
SameSteps δ δ' (filled b c) = Unit {0}
SameSteps δ δ' (composed b c) = Unit {0}

pub relation-same : (δ δ' : List Transition) (r : Rule) → SameSteps δ δ' r → (v w : ℕ → ℕ) → Every (λ j. v j ≡ w j) (calls_of r)
    → relation_of δ r v ≡ relation_of δ' r w
unfolding relation_of
relation-same δ δ' (whole g slots) s v w e = rw (states_same v w slots e) (s (states_at w slots))
relation-same δ δ' (pierced g ls rs) s v w e =
    let (l, r) = every_parts (λ j. v j ≡ w j) ls rs e in
    matrix_cong (λ p q. has (step δ g (states_at v ls ++ (2 ^ p ∷ states_at v rs))) q) (λ p q. has (step δ' g (states_at w ls ++ (2 ^ p ∷ states_at w rs))) q)
    (λ p q hp hq. rw (states_same v w ls l, states_same v w rs r, s (states_at w ls ++ (2 ^ p ∷ states_at w rs))))
relation-same δ δ' (filled b c) s v w e = rw (e.0, e.1.0)
relation-same δ δ' (composed b c) s v w e = rw (e.0, e.1.0)

same-steps : (δ : List Transition) (r : Rule) → SameSteps δ δ r
same-steps δ (whole g slots) = λ ms. refl
same-steps δ (pierced g ls rs) = λ ms. refl
same-steps δ (filled b c) = tt
same-steps δ (composed b c) = tt

cond_same : (b : Bool) (x y z : ℕ) → x ≡ y → cond b x z ≡ cond b y z
cond_same b x y z e = rw e

one_more : (xs : List ℕ) (x : ℕ) → length (xs ++ (x ∷ [])) ≡ suc (length xs)
one_more xs x = omega (arith, length-append xs (x ∷ []))

at_end : (xs : List ℕ) (n x : ℕ) → length xs ≡ n → get_or (xs ++ (x ∷ [])) n 0 ≡ x
at_end xs n x e =
    let s : n ≡ length xs + 0 = omega arith in
    rw s (get_or-append-add xs (x ∷ []) 0 0)

-- of the entries only those below rule i are read
pub relation_local : (δ : List Transition) {alphabet : List ℕ} {rules : List Rule} → Valid alphabet rules → (i : ℕ) → i < length rules
    → (v w : ℕ → ℕ) → ((j : ℕ) → j < i → v j ≡ w j) → relation_of δ (rule_at rules i) v ≡ relation_of δ (rule_at rules i) w
relation_local δ {alphabet} {rules} valid i h v w same =
    let r = rule_at rules i in
    relation-same δ δ r (same-steps δ r) v w (every_map (λ j. j < i) (λ j. v j ≡ w j) same (calls_of r) (fits_below alphabet rules i r (valid.fits i h)))

module _ (δ : List Transition) (f : ℕ) {alphabet : List ℕ} {rules : List Rule} (valid : Valid alphabet rules) (held : List ℕ) where
  -- the first n entries
  abbrev front : ℕ → List ℕ
  front n = redone δ f rules held n

  -- entry i as it ends
  abbrev pub ends : ℕ → ℕ
  ends i = get_or (front (suc i)) i 0

  pub length-redone : (n : ℕ) → length (front n) ≡ n
  unfolding redone
  length-redone zero = refl
  length-redone (suc n) = one_more (front n) _ ∙ ap suc (length-redone n)

  -- an entry stays as it is when further ones are made
  pub redone_at : (n i : ℕ) → i < n → get_or (front n) i 0 ≡ ends i
  unfolding redone
  redone_at zero i h = absurd (omega arith)
  redone_at (suc n) i h = go (dec_lt i n) (redone_at n i)
    where
      go : Dec (i < n) → (i < n → get_or (front n) i 0 ≡ ends i) → get_or (front (suc n)) i 0 ≡ ends i
      go (yes l) ih = get_or-append (front n) _ 0 i (omega (arith, length-redone n)) ∙ ih l
      go (no l) ih =
          let e : i ≡ n = omega arith in
          rw e

  -- entry i, from its own number and the entries below as now held
  redone-step : (i : ℕ) → i < length rules → ends i ≡ cond (depends_at f rules i) (relation_of δ (rule_at rules i) ends) (get_or held i 0)
  unfolding redone
  redone-step i h =
      at_end (front i) i _ (length-redone i)
      ∙ cond_same (depends_at f rules i) _ _ (get_or held i 0) (relation_local δ valid i h (λ j. get_or (front i) j 0) ends (redone_at i))

  pub redone-again : (i : ℕ) → i < length rules → depends_at f rules i ≡ true → ends i ≡ relation_of δ (rule_at rules i) ends
  redone-again i h d = rw d at (redone-step i h)

  pub redone-kept : (i : ℕ) → i < length rules → depends_at f rules i ≡ false → ends i ≡ get_or held i 0
  redone-kept i h d = rw d at (redone-step i h)

  -- nothing else is so made
  module _ (w : ℕ → ℕ) (made : (i : ℕ) → i < length rules → w i ≡ cond (depends_at f rules i) (relation_of δ (rule_at rules i) w) (get_or held i 0)) where
    only_below : (n i : ℕ) → i < n → i < length rules → w i ≡ ends i
    only_below zero i l h = absurd (omega arith)
    only_below (suc n) i l h =
        made i h
        ∙ cond_same (depends_at f rules i) _ _ (get_or held i 0) (relation_local δ valid i h w ends (λ j m. only_below n j (omega arith) (omega arith)))
        ∙ sym (redone-step i h)

    pub redone_only : (i : ℕ) → i < length rules → w i ≡ ends i
    redone_only i h = only_below (suc i) i (omega arith) h

  -- A pass over the slice: its first i entries are as they end, and the numbers behind are as they were.

  put : (i x : ℕ) → i < length held → front (suc i) ≡ front i ++ (x ∷ []) → set (front i ++ drop i held) i x ≡ front (i + 1) ++ drop (i + 1) held
  put i x h e =
      rw (add-one, e, drop-cons held i 0 h, set_at (front i) (get_or held i 0) (drop (suc i) held) x i (length-redone i), append_assoc)

  module _ (i : ℕ) (h : i < length rules) (room : i < length held) (now : List ℕ) (before : now ≡ front i ++ drop i held) where
    entries_below : (j : ℕ) → j < i → get_or now j 0 ≡ get_or (front i) j 0
    entries_below j l = rw before (get_or-append (front i) (drop i held) 0 j (omega (arith, length-redone i)))

    -- a rule that depends: its entry is redone from those now in the slice
    pub pass_redone : depends_at f rules i ≡ true → (x : ℕ) → x ≡ relation_of δ (rule_at rules i) (λ j. get_or now j 0)
        → set now i x ≡ front (i + 1) ++ drop (i + 1) held
    unfolding redone
    pass_redone d x e =
        let is : x ≡ relation_of δ (rule_at rules i) (λ j. get_or (front i) j 0) = e ∙ relation_local δ valid i h (λ j. get_or now j 0) (λ j. get_or (front i) j 0) entries_below in
        rw before (put i x room (rw (d, is)))

    -- a rule that does not: the slice stays
    pub pass_kept : depends_at f rules i ≡ false → now ≡ front (i + 1) ++ drop (i + 1) held
    unfolding redone
    pass_kept d = rw (before, add-one, drop-cons held i 0 room, d, append_assoc)
