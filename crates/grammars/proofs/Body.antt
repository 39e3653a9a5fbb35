-- Rules one behind the other: what stands at a place of a rules body.
use mathlib.Core.Path.{◌≡◌, refl, ◌∙◌, ap}
use mathlib.Core.Bool.{true, false}
use mathlib.Core.List.{List, [], ◌∷◌}
use Rattle.std.proofs.Common.{Some, None}
use Prim.Native.Nat.{ℕ, zero, suc, ◌+◌, ◌-◌, ◌<◌, ◌≤◌}
use native.Mathlib.Omega.{arith}
use native.Mathlib.Decide.{dec_le}
use borrow.Author.Tests.{le-leb, lt-leb}
use lib.Dec.{leb}
use lib.ListN.{length, get_or, take, drop, length-drop, drop_of_length-le, get_or-eq_default}
use lib.Seq.{drop-cons, drop-drop, length-take-le, take-length}
use Rattle.terms.specs.Grammar.{node_count}
use Rattle.terms.specs.Sheet.{RulesBody, with_rule, read_rules, rules_body}
use Rattle.grammars.specs.Cursor.{span_at, rule_in}
use Rattle.grammars.specs.Rules.{body_counts}
use Rattle.grammars.specs.declared.cursor.Span.{Span}

-- as many steps as bytes are enough, and more change nothing
steps : (k m : ℕ) (bs : List ℕ) → length bs ≤ k → length bs ≤ m → read_rules k bs ≡ read_rules m bs
unfolding read_rules
steps zero zero bs h l = refl
steps zero (suc m) [] h l = refl
steps zero (suc m) (b ∷ bs) h l = absurd (omega arith)
steps (suc k) zero [] h l = refl
steps (suc k) zero (b ∷ bs) h l = absurd (omega arith)
steps (suc k) (suc m) [] h l = refl
steps (suc k) (suc m) (rank ∷ []) h l = refl
steps (suc k) (suc m) (rank ∷ n ∷ bs) h l =
    ap (with_rule rank (take n bs) (leb n (length bs))) (steps k m (drop n bs) (omega (arith, length-drop n bs)) (omega (arith, length-drop n bs)))

body-rule : (rank n : ℕ) (bs : List ℕ) → rules_body (rank ∷ n ∷ bs) ≡ with_rule rank (take n bs) (leb n (length bs)) (rules_body (drop n bs))
unfolding rules_body read_rules
body-rule rank n bs =
    ap (with_rule rank (take n bs) (leb n (length bs)))
    (steps (suc (length bs)) (length (drop n bs)) (drop n bs) (omega (arith, length-drop n bs)) (omega arith))

body-none : rules_body [] ≡ record { rules = []; ends = true }
unfolding rules_body read_rules
body-none = refl

body_one : (b : ℕ) → rules_body (b ∷ []) ≡ record { rules = []; ends = false }
unfolding rules_body read_rules
body_one b = refl

-- a body that ends before a rule's nodes has no count of them
abbrev span_to : List ℕ → ℕ → ℕ → Span
span_to body at end = record { rank = get_or body at 0; start = at + 2; end = end }

pub span_cut : (body : List ℕ) (at : ℕ) → length body < at + 2 → span_to body at (at + 2) ≡ span_at body at
span_cut body at h = ap (span_to body at) (omega (arith, get_or-eq_default body 0 {n = at + 1} (omega arith)))

-- a span's places are in order
pub span_ordered : (body : List ℕ) (at : ℕ) {span : Span} → span ≡ span_at body at → (at < span.start) × (span.start ≤ span.end)
span_ordered body at e = rw e (omega arith)

pub span_count : (body : List ℕ) (at : ℕ) {span : Span} → span ≡ span_at body at → span.end - span.start ≡ get_or body (at + 1) 0
span_count body at e = rw e (omega arith)

-- the rule whose rank stands at a place
module _ (body : List ℕ) (at : ℕ) where
  abbrev span : Span
  span = span_at body at

  two_bytes : at + 2 ≤ length body → drop at body ≡ get_or body at 0 ∷ get_or body (at + 1) 0 ∷ drop (at + 2) body
  two_bytes h =
      let a : at < length body = omega arith in
      let b : at + 1 < length body = omega arith in
      let k : suc at ≡ at + 1 = omega arith in
      let l : suc (at + 1) ≡ at + 2 = omega arith in
      drop-cons body at 0 a ∙ rw (k, drop-cons body (at + 1) 0 b, l)

  here : at + 2 ≤ length body → rules_body (drop at body)
      ≡ with_rule span.rank (rule_in body span).nodes (leb (get_or body (at + 1) 0) (length body - (at + 2))) (rules_body (drop span.end body))
  here h = rw (span_count body at refl, two_bytes h) (body-rule (get_or body at 0) (get_or body (at + 1) 0) (drop (at + 2) body) ∙ rw (length-drop, drop-drop))

  -- a rule whose nodes are all there
  whole : span.end ≤ length body → rules_body (drop at body) ≡ with_rule span.rank (rule_in body span).nodes true (rules_body (drop span.end body))
  whole h =
      let a : get_or body (at + 1) 0 ≤ length body - (at + 2) = omega arith in
      here (omega arith) ∙ rw (le-leb _ _ a)

  -- it has as many nodes as lie between the places
  pub nodes-long : span.end ≤ length body → length (rule_in body span).nodes ≡ span.end - span.start
  nodes-long h = length-take-le _ _ (rw length-drop (omega arith))

  -- nothing stands at the end
  none-there : length body ≤ at → rules_body (drop at body) ≡ record { rules = []; ends = true }
  none-there h = rw (drop_of_length-le body h) body-none

  -- a rule that is cut off
  cut : at < length body → length body < span.end → rules_body (drop at body) ≡ record { rules = []; ends = false }
  cut h l = go (dec_le (at + 2) (length body))
    where
      go : Dec (at + 2 ≤ length body) → rules_body (drop at body) ≡ record { rules = []; ends = false }
      go (yes a) =
          let b : length body - (at + 2) < get_or body (at + 1) 0 = omega arith in
          rw (here a, lt-leb _ _ b)
      go (no a) =
          let k : length body ≤ suc at = omega arith in
          rw (drop-cons body at 0 h, drop_of_length-le body k) (body_one _)

-- the rules before a place, n of them with m nodes: what is behind it adds what there is more
pub record Passed (body : List ℕ) (at n m : ℕ) : Type 0 where
  pub within : at ≤ length body
  pub ends : (rules_body body).ends ≡ (rules_body (drop at body)).ends
  pub rules : length (rules_body body).rules ≡ n + length (rules_body (drop at body)).rules
  pub nodes : node_count (rules_body body).rules ≡ m + node_count (rules_body (drop at body)).rules
  pub few : (n ≤ at) × (m ≤ at)

pub none_passed : (body : List ℕ) → Passed body 0 0 0
none_passed body = record { within = omega arith; ends = refl; rules = omega arith; nodes = omega arith; few = omega arith }

module _ (body : List ℕ) (at n m : ℕ) (p : Passed body at n m) where
  -- one rule more
  pub rule_passed : {span : Span} → span ≡ span_at body at → span.end ≤ length body → Passed body span.end (n + 1) (m + (span.end - span.start))
  rule_passed e h =
      let h : (span_at body at).end ≤ length body = rw e at h in
      let w = whole body at h in
      rw e
      record {
        within = h;
        ends = p.ends ∙ rw w;
        rules = omega (arith, p.rules, ap (λ (b : RulesBody). length b.rules) w);
        nodes = omega (arith, p.nodes, nodes-long body at h, ap (λ (b : RulesBody). node_count b.rules) w);
        few = omega (arith, p.few.0, p.few.1);
      }

  -- all rules
  pub all_passed : length body ≤ at → Some (record { rules = n; nodes = m }) ≡ body_counts (rules_body body)
  all_passed h =
      let e = none-there body at h in
      let r : length (rules_body body).rules ≡ n = p.rules ∙ rw e (omega arith) in
      let k : node_count (rules_body body).rules ≡ m = p.nodes ∙ rw e (omega arith) in
      rw (p.ends, e, r, k)

  -- a rule that is cut off
  pub cut_short : {span : Span} → span ≡ span_at body at → at < length body → length body < span.end → None ≡ body_counts (rules_body body)
  cut_short e h l = rw (p.ends, cut body at h (rw e at l))

-- the first rule of a body, as bytes read it
module _ (body : List ℕ) where
  pub no_head : length body < 2 → (rules_body body).rules ≡ []
  no_head h = go body h
    where
      go : (bs : List ℕ) → length bs < 2 → (rules_body bs).rules ≡ []
      go [] h = ap (λ (b : RulesBody). b.rules) body-none
      go (b ∷ []) h = ap (λ (b : RulesBody). b.rules) (body_one b)
      go (b ∷ c ∷ bs) h = absurd (omega arith)

  module _ (head : 2 ≤ length body) {n : ℕ} (count : n ≡ get_or body 1 0) where
    pub nodes_lack : length body - 2 < n → (rules_body body).rules ≡ []
    nodes_lack h = ap (λ (b : RulesBody). b.rules) (cut body 0 (omega arith) (omega arith))

    pub first_rule : n ≤ length body - 2 → (rules_body body).rules ≡ record { rank = get_or body 0 0; nodes = take n (drop 2 body) } ∷ (rules_body (drop n (drop 2 body))).rules
    first_rule h =
        let e = ap (λ (b : RulesBody). b.rules) (whole body 0 (omega arith)) in
        rw (count, drop-drop) (rw (span_count body 0 refl) at e)

  pub behind_head : take (length body - 2) (drop 2 body) ≡ drop 2 body
  behind_head = rw (← length-drop 2 body) (take-length (drop 2 body))
